-- A block that is accepted in one order of its records is accepted with two neighbours exchanged: it has as many records, and the same ones.
-- Assumes nothing.
use mathlib.Core.Path.{◌≡◌, refl, ap}
use mathlib.Core.List.{List, [], ◌∷◌, ◌++◌}
use Prim.Native.Nat.{ℕ, suc, ◌+◌, ◌*◌, ◌≤◌}
use native.Mathlib.Omega.{arith}
use lib.ListN.{length}
use borrow.Author.Tests.{le-leb, eq-eqb}
use Rattle.neon.specs.declared.Instruction.{Instruction}
use Rattle.neon.specs.Refusal.{reserve, most_records, record_number, AllLegal, records_refusal, size_number, block_refusal}
use Rattle.block_check.proofs.Refusals.{block-legal}

-- ---- legal records that fit are accepted

records-pass : (p : ℕ) (cs : List Instruction) → AllLegal cs → (records_refusal p cs).number ≡ 0
unfolding records_refusal
records-pass p [] l = refl
records-pass p (c ∷ cs) l = rw (eq-eqb (record_number c) 0 l.0) (records-pass (suc p) cs l.1)

block-passes : (p : ℕ) (cs : List Instruction) → length cs ≤ most_records → 32 + reserve * length cs ≤ p → AllLegal cs → (block_refusal p cs).number ≡ 0
unfolding block_refusal size_number
block-passes p cs few room l = rw (le-leb (length cs) most_records few, le-leb (32 + reserve * length cs) p room) (records-pass 0 cs l)

-- ---- two neighbours exchanged

module _ (c d : Instruction) (after : List Instruction) where
  same_length : (before : List Instruction) → length (before ++ (c ∷ d ∷ after)) ≡ length (before ++ (d ∷ c ∷ after))
  same_length [] = refl
  same_length (_ ∷ before) = ap suc (same_length before)

  legal-swapped : (before : List Instruction) → AllLegal (before ++ (c ∷ d ∷ after)) → AllLegal (before ++ (d ∷ c ∷ after))
  legal-swapped [] l = (l.1.0, (l.0, l.1.1))
  legal-swapped (_ ∷ before) l = (l.0, legal-swapped before l.1)

  pub accepted-swapped : (before : List Instruction) (p q : ℕ) → p ≤ q → (block_refusal p (before ++ (c ∷ d ∷ after))).number ≡ 0
      → (block_refusal q (before ++ (d ∷ c ∷ after))).number ≡ 0
  accepted-swapped before p q h e =
      let b = block-legal p _ e in
      let s = same_length before in
      block-passes q _ (omega (arith, s, b.0)) (omega (arith, s, b.1)) (legal-swapped before b.2)
