-- The set in a valid node's word 0 is what the walk over its tree finds. Assumes nothing.
use mathlib.Core.Path.{◌≡◌, refl, sym, ap₂, ◌∙◌}
use mathlib.Core.List.{List}
use Prim.Native.Nat.{ℕ, zero, suc, ◌+◌, ◌*◌, ◌<◌}
use native.Mathlib.Omega.{arith}
use native.Mathlib.Nat.{lt_trans}
use mathlib.Core.Bool.{true, false≢true}
use lib.Dec.{ltb}
use lib.ListN.{length}
use lib.Bits.{bit_or}
use borrow.Author.Tests.{lt-ltb}
use Rattle.facts.proofs.Refused.{zero-beside}
use Rattle.terms.specs.Expr.{Expr}
use Rattle.terms.specs.Registers.{registers}
use Rattle.pool.specs.Node.{Kind, bad, var, const, bv, compare, ite, extract, concat, zext, sext, Cell, cell_at, set_at}
use Rattle.pool.specs.Rules.{ok_kind, width_before, set_over, set_before_block, pool_ok, node_number, Valid}
use Rattle.pool_registers.specs.Answer.{Named}
use Rattle.pool.specs.Unfold.{shape_of, earlier, unfold_to, unfold_at}
use Rattle.pool.proofs.Facts.{valid-node, valid-set}
use Rattle.pool_check.proofs.Passed.{words-for, keeps}
use Rattle.pool_rules.proofs.Kept.{bv-tests, compare-tests, ite-tests, extract-tests, concat-tests, zext-tests}

-- node n with the cell k, over the terms a, b, c of its operands, whose sets are SA, SB, SC
module _ (n : ℕ) (k : Cell) (A B C SA SB SC : ℕ) (a b c : Expr) (sa : k.a < n → SA ≡ registers a) (sb : k.b < n → SB ≡ registers b) (sc : k.c < n → SC ≡ registers c) where
  by_kind : (κ : Kind) → ok_kind κ n k A B C ≡ true → set_over κ k.x SA SB SC ≡ registers (shape_of κ k a b c)
  unfolding registers
  by_kind bad h = absurd (false≢true h)
  by_kind var h = refl
  by_kind const h = refl
  by_kind (bv o) h = let t = bv-tests n k A B C o h in ap₂ bit_or (sa t.1) (sb t.2)
  by_kind (compare o) h = let t = compare-tests n k A B C o h in ap₂ bit_or (sa t.1) (sb t.2)
  by_kind ite h = let t = ite-tests n k A B C h in ap₂ bit_or (ap₂ bit_or (sa t.1) (sb t.2)) (sc t.3)
  by_kind extract h = let t = extract-tests n k A B C h in sa t.0
  by_kind concat h = let t = concat-tests n k A B C h in ap₂ bit_or (sa t.1) (sb t.2)
  by_kind zext h = let t = zext-tests n k A B C h in sa t.1
  by_kind sext h = let t = zext-tests n k A B C h in sa t.1

module _ (ws : List ℕ) (count : ℕ) (v : Valid ws count) where
  walk-to : (f n : ℕ) → n < f → n < count → set_at ws n ≡ registers (unfold_to f ws n)
  unfolding unfold_to
  walk-to zero n l h = absurd (omega (arith, l))
  walk-to (suc f) n l h =
      let k = cell_at ws n in
      let at : (m : ℕ) → m < n → set_before_block ws n m ≡ registers (earlier (ltb m n) (unfold_to f ws m)) = λ m e. rw (lt-ltb m n e) (walk-to f m (omega (arith, l, e)) (lt_trans e h)) in
      valid-set ws count n v h
      ∙ by_kind n k (width_before ws n k.a) (width_before ws n k.b) (width_before ws n k.c) (set_before_block ws n k.a) (set_before_block ws n k.b) (set_before_block ws n k.c) _ _ _
      (at k.a) (at k.b) (at k.c) k.kind (valid-node ws count n v h)

  pub walk_is : (n : ℕ) → n < count → set_at ws n ≡ registers (unfold_at ws n)
  unfolding unfold_at
  walk_is n h = walk-to (suc n) n (omega arith) h

-- ---- what `registers_of` answers, by the way that it took
module _ (ws : List ℕ) (count n : ℕ) where
  pub refused : (k : ℕ) → k ≡ node_number ws count n 0 → 0 < k → Named ws count n k 0
  refused k e h = record { number_is = e; set_is = rw (← e) (sym (zero-beside k _ h)) }

  pub inside : pool_ok ws count ≡ true → n < count → 4 * n + 3 < length ws
  inside h l = omega (arith, words-for ws count h)

  pub told : {k s : ℕ} → k ≡ node_number ws count n 0 → k ≡ 0 → pool_ok ws count ≡ true → n < count → s ≡ set_at ws n → Named ws count n k s
  told i z h l e =
      record { number_is = i; set_is = rw (sym i ∙ z) (e ∙ walk_is ws count (keeps ws count h) n l) }
