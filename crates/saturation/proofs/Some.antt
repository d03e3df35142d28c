-- The bits of an instruction's lanes side by side: 0 exactly when none is 1; and the block's term after it. Assumes nothing.
use mathlib.Core.Path.{◌≡◌, refl, ap, ◌∙◌}
use mathlib.Core.Bool.{Bool, true, false, not, ◌||◌}
use Prim.Native.Nat.{ℕ, zero, suc, ◌+◌, ◌-◌, ◌*◌, ◌^◌, ◌<◌}
use native.Mathlib.Omega.{arith}
use borrow.Author.Tests.{eq-eqb, ne_eqb, eqb-true, eqb-false}
use lib.Dec.{eqb}
use lib.Pow.{pow_pos}
use Rattle.terms.specs.Expr.{Expr, width}
use Rattle.terms.specs.Value.{value, bit, ite}
use Rattle.neon.specs.Arm.{lanes}
use Rattle.trees.specs.Simd.{concat_lanes}
use Rattle.neon.proofs.Lanes.{lanes-eq}
use Rattle.trees_value.proofs.Is.{Has}
use Rattle.trees_value.proofs.Lanes.{concat-value, concat-width}
use Rattle.saturation.specs.Saturates.{some}
use Rattle.saturation.specs.Bits.{instruction_bit}

sum-zero : (b p q : ℕ) → 0 < p → b * p + q ≡ 0 → b ≡ 0
sum-zero zero p q h e = refl
sum-zero (suc b) p q h e = absurd (omega arith)

one_more : (k : ℕ) (f : ℕ → Bool) (l : ℕ) → eqb l 0 ≡ not (some k f) → eqb (bit (f k) * 2 ^ (1 * k) + l) 0 ≡ not (some k f || f k)
one_more k f l below = go (f k) refl (some k f) refl
  where
    also : (s : Bool) → false ≡ not (s || true)
    also true = refl
    also false = refl

    go : (t : Bool) → f k ≡ t → (s : Bool) → some k f ≡ s → eqb (bit (f k) * 2 ^ (1 * k) + l) 0 ≡ not (some k f || f k)
    go true e s d = rw (e, d) (ne_eqb (1 * 2 ^ (1 * k) + l) 0 (λ q. omega (arith, q, pow_pos (1 * k))) ∙ also s)
    go false e true d = rw (e, d) (ne_eqb (0 * 2 ^ (1 * k) + l) 0 (λ q. eqb-false l 0 (below ∙ rw d) (omega arith)))
    go false e false d = rw (e, d) (eq-eqb (0 * 2 ^ (1 * k) + l) 0 (omega (arith, eqb-true l 0 (below ∙ rw d))))

none_is : (k : ℕ) (f : ℕ → Bool) → eqb (lanes 1 k (λ j. bit (f j))) 0 ≡ not (some k f)
unfolding lanes some
none_is zero f = refl
none_is (suc k) f = one_more k f (lanes 1 k (λ j. bit (f j))) (none_is k f)

module _ (r : ℕ → ℕ) (k : ℕ) (hk : 0 < k) (bits : ℕ → Expr) (f : ℕ → Bool) (each : (j : ℕ) → Has r (bits j) 1 (bit (f j))) where
  all-width : width (concat_lanes (k - 1) bits) ≡ k
  all-width = concat-width r 1 (k - 1) bits (λ j. (each j).wide) ∙ omega arith

  all-value : value r (concat_lanes (k - 1) bits) ≡ lanes 1 k (λ j. bit (f j))
  all-value =
      concat-value r 1 (k - 1) bits (λ j. (each j).wide)
      ∙ lanes-eq 1 (suc (k - 1)) (λ j. value r (bits j)) (λ j. bit (f j)) (λ j l. (each j).val)
      ∙ ap (λ (m : ℕ). lanes 1 m (λ j. bit (f j))) {x = suc (k - 1)} {y = k} (omega arith)

  pub instruction-is : (before : Expr) (b : Bool) → Has r before 1 (bit b) → Has r (instruction_bit k bits before) 1 (bit (b || some k f))
  unfolding instruction_bit value width
  instruction-is before b p = record {
    wide = p.wide;
    val = ap (λ (x : ℕ). ite (bit (eqb x 0)) (value r before) 1) all-value ∙ ap (λ (t : Bool). ite (bit t) (value r before) 1) (none_is k f) ∙ pick b (some k f) p.val;
  }
    where
      pick : (b s : Bool) → value r before ≡ bit b → ite (bit (not s)) (value r before) 1 ≡ bit (b || s)
      pick true true e = refl
      pick false true e = refl
      pick true false e = e
      pick false false e = e
