-- The theorems of specs/Demand.antt. Assumes nothing.
use mathlib.Core.Bool.{Bool, true, false}
use mathlib.Core.Path.{◌≡◌, refl, sym, ap, ◌∙◌}
use Prim.Native.Nat.{ℕ, ◌+◌, ◌*◌}
use native.Mathlib.Omega.{arith}
use mathlib.Core.List.{List}
use lib.Dec.{leb}
use lib.ListN.{length}
use borrow.Author.Tests.{le-leb, leb-true}
use Rattle.terms.specs.Value.{bit}
use Rattle.neon.specs.declared.Instruction.{Instruction}
use Rattle.neon.specs.Refusal.{Refusal, reserve, most_records, count_number, size_number, block_refusal}
use Rattle.pool.specs.Node.{places}
use Rattle.block_check.proofs.Refusals.{block-legal, legal-by, by-records}
use Rattle.wide.specs.Registers.{registers_of}
use Rattle.block.proofs.Equal.{registers-hold}
use Rattle.evaluate_blocks.proofs.Equal.{evaluated-is-run}
use Rattle.run_block.specs.Run.{run_refusal}
use Rattle.saturation.proofs.Block.{block-bit-is}
use Rattle.saturation_block.specs.Size.{flag_size, flag_refusal}
use Rattle.saturation_block.proofs.Done.{flag-legal}
use Rattle.saturation_block.proofs.Equal as flagged
use Rattle.run_agreement.specs.Demand.{SameRefusal, RunnerIsArm, RunnerIsTerms, RunnerIsEvaluator, RunnerIsFlagged, RunnerIsBit}

pub same-refusal : SameRefusal
unfolding block_refusal size_number
same-refusal places cs h = go (leb (length cs) most_records) refl
  where
    go : (t : Bool) → leb (length cs) most_records ≡ t → unfold block_refusal size_number in (block_refusal places cs ≡ run_refusal cs)
    go true e = rw (e, le-leb (32 + reserve * length cs) places (h (leb-true (length cs) most_records e)))
    go false e = rw e

pub runner-is-arm : RunnerIsArm
runner-is-arm start cs number position new p z r l = p.ran z r l

pub runner-is-terms : RunnerIsTerms
runner-is-terms old cs pool a h z start number position new p =
    let room = block-legal (places old) cs (sym h.number ∙ z) in
    let same = same-refusal (places old) cs (λ _. room.1) in
    let done = p.number_is ∙ sym (ap (λ (x : Refusal). x.number) same) ∙ sym h.number ∙ z in
    (done, λ r l. p.ran done r l ∙ registers-hold old cs pool a h z (registers_of start) r l)

pub runner-is-evaluator : RunnerIsEvaluator
runner-is-evaluator old cs pool a h z start number position new p r allowance l enough e q =
    let found = evaluated-is-run old cs pool a h z start r allowance l enough e q in
    let done = (runner-is-terms old cs pool a h z start number position new p).0 in
    (found.0, p.ran done r l ∙ sym found.1)

-- a block that is accepted with its bit is accepted by the runner
flag-runs : (p : ℕ) (cs : List Instruction) → (flag_refusal p cs).number ≡ 0 → (run_refusal cs).number ≡ 0
unfolding flag_refusal
flag-runs p cs e =
    let size = flag_size p (length cs) in
    let few = (flag-legal p cs e).few in
    let by = by-records size cs (omega (arith, (legal-by size cs e).0)) in
    rw (le-leb (length cs) most_records (omega (arith, few))) (sym (ap (λ (x : Refusal). x.number) by) ∙ e)

pub runner-is-flagged : RunnerIsFlagged
runner-is-flagged old cs pool a h z start number position new saturated p q =
    let done : number ≡ 0 = p.number_is ∙ flag-runs (places old) cs (sym h.number ∙ z) in (
      done,
      λ r l. p.ran done r l ∙ flagged.registers-hold old cs pool a h z (registers_of start) r l,
      ap bit (q.ran done) ∙ sym (flagged.bit-holds old cs pool a h z (registers_of start)),
    )

pub runner-is-bit : RunnerIsBit
runner-is-bit start cs number position new saturated p q z =
    let legal = (legal-by (count_number (length cs) 0) cs (sym p.number_is ∙ z)).1 in
    ap bit (q.ran z) ∙ sym (block-bit-is (registers_of start) cs legal).val
