-- The records of a list in order: the first that is refused. Assumes nothing.
use mathlib.Core.Path.{◌≡◌, sym, ap, subst, ◌∙◌}
use mathlib.Core.List.{List}
use Prim.Native.Nat.{ℕ, ◌+◌, ◌≤◌, ◌<◌}
use native.Mathlib.Omega.{arith}
use native.Mathlib.Numerals.{add-one}
use lib.ListN.{length, get_or, drop, drop_of_length-le}
use lib.Seq.{drop-cons}
use borrow.Author.Tests.{eq-eqb, ne_eqb}
use Rattle.std.specs.declared.result.Result.TheVariants.{Ok, Err}
use Rattle.facts.specs.declared.Refusal as facts
use Rattle.facts.specs.Answer.{code}
use Rattle.facts.proofs.Answers.{code-positive}
use Rattle.neon.specs.declared.Instruction.{Instruction}
use Rattle.neon.specs.Refusal.{Refusal, record_number, refusal, records_refusal, size_number, block_refusal}
use Rattle.block_record_check.specs.Record.{instruction}
use Rattle.block_check.specs.Records.{Refuses}
use Rattle.block_check.proofs.Refusals.{by_size, by-records}

-- what comes past the end of a list
abbrev pub none : Instruction
none = instruction 0 0 0 0 0 0

-- ---- the first that is refused

module _ (p : ℕ) (cs : List Instruction) where
  -- the block's size
  pub refused-size : (r : facts.Refusal) → code r ≡ size_number p (length cs) → Refuses {A = Unit {0}} (Err (record { refusal = r; position = 0 })) (block_refusal p cs)
  unfolding block_refusal
  refused-size r e = by_size (size_number p (length cs)) cs r (sym e)

  -- the records before the j-th are accepted
  abbrev pub Passed : ℕ → Type 0
  Passed j = records_refusal j (drop j cs) ≡ block_refusal p cs

  pub none_passed : 0 ≡ size_number p (length cs) → Passed 0
  unfolding block_refusal
  none_passed e = sym (by-records (size_number p (length cs)) cs (omega (arith, e)))

  pub passed-more : (j : ℕ) → Passed j → j < length cs → 0 ≡ record_number (get_or cs j none) → Passed (j + 1)
  unfolding records_refusal
  passed-more j s l e =
      subst (λ (i : ℕ). records_refusal i (drop i cs) ≡ block_refusal p cs) (sym (add-one j))
      (sym (rw (drop-cons cs j none l, eq-eqb (record_number (get_or cs j none)) 0 (sym e))) ∙ s)

  pub refused-here : (r : facts.Refusal) (j : ℕ) → Passed j → j < length cs → code r ≡ record_number (get_or cs j none)
      → Refuses {A = Unit {0}} (Err (record { refusal = r; position = j })) (block_refusal p cs)
  unfolding records_refusal
  refused-here r j s l e =
      let here : block_refusal p cs ≡ refusal (record_number (get_or cs j none)) j =
      sym s ∙ rw (drop-cons cs j none l, ne_eqb (record_number (get_or cs j none)) 0 (λ z. code-positive r (e ∙ z))) in
      (e ∙ sym (ap (λ (x : Refusal). x.number) here), sym (ap (λ (x : Refusal). x.position) here))

  pub all-passed : (j : ℕ) → Passed j → length cs ≤ j → Refuses {A = Unit {0}} (Ok tt) (block_refusal p cs)
  unfolding records_refusal
  all-passed j s l =
      let none_left : block_refusal p cs ≡ refusal 0 0 = sym s ∙ ap (λ (l : List Instruction). records_refusal j l) (drop_of_length-le cs l) in
      (sym (ap (λ (x : Refusal). x.number) none_left), sym (ap (λ (x : Refusal). x.position) none_left))
