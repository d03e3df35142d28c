-- The theorems of specs/Demand.antt on blocks with their saturation bit. Assumes nothing.
use mathlib.Core.Path.{refl, sym, ap, ◌∙◌}
use mathlib.Core.List.{List}
use Prim.Native.Nat.{ℕ}
use lib.ListN.{get_or}
use Rattle.terms.specs.Value.{value}
use Rattle.pool.specs.Unfold.{unfold_at}
use Rattle.wide.specs.Registers.{registers_of}
use Rattle.block_results.proofs.Putting.{flagged-node, flagged-bit}
use Rattle.saturation_block.proofs.Equal as flagged
use Rattle.run_agreement.proofs.Equal.{runner-is-flagged}
use Rattle.neon_terms.specs.Demand.{BitHolds, FlaggedRegistersHold, FlaggedEqualWhenTermsAre, FlaggedRefusedWhole, RunnerAgrees}

pub bit-holds : BitHolds
bit-holds old cs new results number (a, answered, same, words) z start =
    ap (λ (n : ℕ). value start (unfold_at new n)) (ap (λ (ws : List ℕ). get_or ws 34 0) words ∙ flagged-bit a.map a.position a.bit.0)
    ∙ flagged.bit-holds old cs new a answered (sym same ∙ z) start

pub flagged-registers-hold : FlaggedRegistersHold
flagged-registers-hold old cs new results number (a, answered, same, words) z start r l =
    flagged.registers-hold old cs new a answered (sym same ∙ z) start r l
    ∙ ap (λ (n : ℕ). value start (unfold_at new n)) (sym (ap (λ (ws : List ℕ). get_or ws r 0) words ∙ flagged-node a.map a.position a.bit.0 r l))

pub flagged-equal-when-terms-are : FlaggedEqualWhenTermsAre
flagged-equal-when-terms-are old cs new results number h z old' cs' new' results' number' h' z' start r r' l l' =
    let p = flagged-registers-hold old cs new results number h z start r l in
    let q = flagged-registers-hold old' cs' new' results' number' h' z' start r' l' in
    (λ e. sym p ∙ e ∙ q, λ e. p ∙ e ∙ sym q)

pub flagged-refused-whole : FlaggedRefusedWhole
flagged-refused-whole old cs new results number (a, answered, same, words) c m f =
    let (refused, empty, gone, kept) = flagged.refused-whole old cs new a answered c m f in
    (λ z. refused (sym same ∙ z), a.position, words ∙ rw (empty, gone) refl, kept)

pub runner-agrees : RunnerAgrees
runner-agrees old cs new results number (a, answered, same, words) z start after ws k (ran, (saturated, flag, at)) =
    let agreed = runner-is-flagged old cs new a answered (sym same ∙ z) start k (get_or ws 0 0) after saturated ran flag in (
      agreed.0,
      at ∙ agreed.2
          ∙ ap (λ (n : ℕ). value (registers_of start) (unfold_at new n)) (sym (ap (λ (xs : List ℕ). get_or xs 34 0) words ∙ flagged-bit a.map a.position a.bit.0)),
    )
