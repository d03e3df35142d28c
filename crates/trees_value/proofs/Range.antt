-- The value of a vector term that keeps the rules is a number of its width's bits, if the start's registers have 128. Assumes nothing.
use mathlib.Core.Path.{◌≡◌, sym, ap, ◌∙◌, subst}
use mathlib.Core.Bool.{Bool, true, false, cond}
use mathlib.Core.List.{List}
use Prim.Native.Nat.{ℕ, zero, suc, ◌+◌, ◌-◌, ◌*◌, ◌/◌, ◌%◌, ◌^◌, ◌≤◌, ◌<◌}
use native.Mathlib.Omega.{arith}
use native.Mathlib.Nat.{mod-lt, lt_of_lt_of_le, mul-le-mul}
use lib.Dec.{eqb}
use lib.Arith.{digits_lt}
use lib.Bits.{and_lt, or_lt, xor_lt}
use lib.Pow.{pow_pos, pow-add, pow_mono, ones_sub-lt, ones_lt}
use Rattle.terms.specs.declared.BinOp.{BinOp}
use Rattle.terms.specs.declared.BinOp.TheVariants.{Add, Sub, Mul, And, Or, Xor, Shl, LShr, AShr}
use Rattle.terms.specs.Expr.{Expr, Var, Const, Bv, Compare, Ite, Extract, Concat, ZeroExtend, SignExtend, width}
use Rattle.terms.specs.Value.{value, apply, ite, msb, bvneg, bvnot, bvadd, bvsub, bvmul, bvshl, bvlshr, bvashr, bvsext}
use Rattle.terms.specs.Rules.{Good}
use Rattle.neon.specs.declared.Instruction.{Instruction}
use Rattle.neon.specs.Refusal.{AllLegal}
use Rattle.trees.specs.Trees.{tree_run}
use Rattle.trees_value.proofs.FitForm.{fit-block}

-- each operator gives a number of m bits
apply-lt : (o : BinOp) (m s t : ℕ) → s < 2 ^ m → t < 2 ^ m → apply o m s t < 2 ^ m
unfolding bvadd bvsub bvmul bvshl bvlshr bvashr bvnot
apply-lt Add m s t h k = mod-lt (s + t) (pow_pos m)
apply-lt Sub m s t h k = mod-lt (s + bvneg m t) (pow_pos m)
apply-lt Mul m s t h k = mod-lt (s * t) (pow_pos m)
apply-lt And m s t h k = and_lt m s t h k
apply-lt Or m s t h k = or_lt m s t h k
apply-lt Xor m s t h k = xor_lt m s t h k
apply-lt Shl m s t h k = mod-lt (s * 2 ^ t) (pow_pos m)
apply-lt LShr m s t h k = mod-lt (s / 2 ^ t) (pow_pos m)
apply-lt AShr m s t h k = go (eqb (msb m s) 0)
  where
    go : (b : Bool) → unfold bvlshr bvnot in (cond b (bvlshr m s t) (bvnot m (bvlshr m (bvnot m s) t)) < 2 ^ m)
    go true = mod-lt (s / 2 ^ t) (pow_pos m)
    go false = ones_sub-lt m (((2 ^ m - 1) - s) / 2 ^ t % 2 ^ m)

-- copies of the top bit above m bits
sext-lt : (m w s : ℕ) → m ≤ w → s < 2 ^ m → bvsext m w s < 2 ^ w
unfolding bvsext msb
sext-lt m w s h k =
    subst (λ (x : ℕ). s / 2 ^ (m - 1) % 2 * (2 ^ (w - m) - 1) * 2 ^ m + s < x) (sym (pow-add 2 (w - m) m) ∙ ap (λ (x : ℕ). 2 ^ x) (omega arith))
    (digits_lt copies k)
  where
    bit : s / 2 ^ (m - 1) % 2 ≤ 1
    bit = omega (arith, mod-lt (s / 2 ^ (m - 1)) {m = 2} (omega arith))

    copies : s / 2 ^ (m - 1) % 2 * (2 ^ (w - m) - 1) < 2 ^ (w - m)
    copies =
        omega (
          arith,
          mul-le-mul {n₁ = s / 2 ^ (m - 1) % 2} {m₁ = 2 ^ (w - m) - 1} {n₂ = 1} {m₂ = 2 ^ (w - m) - 1} bit (omega arith),
          ones_lt (w - m),
        )

ite-lt : (c a b m : ℕ) → a < m → b < m → ite c a b < m
ite-lt zero a b m h k = k
ite-lt (suc c) a b m h k = h

module _ (start : ℕ → ℕ) (bits : (x : ℕ) → x < 32 → start x < 2 ^ 128) where
  pub value-lt : (t : Expr) → Good t → 0 < width t → value start t < 2 ^ width t
  unfolding value width Good
  value-lt (Var x) g h = bits x g
  value-lt (Const v w) g h = g.2
  value-lt (Bv o a b) g h = apply-lt o (width a) (value start a) (value start b) (value-lt a g.0 h) (rw g.2 (value-lt b g.1 (rw (← g.2) h)))
  value-lt (Compare o a b) g h = absurd (omega arith)
  value-lt (Ite c a b) g h =
      ite-lt (value start c) (value start a) (value start b) (2 ^ width a) (value-lt a g.1 h) (rw g.4 (value-lt b g.2 (rw (← g.4) h)))
  value-lt (Extract a hi lo) g h = mod-lt (value start a / 2 ^ lo) (pow_pos (suc (hi - lo)))
  value-lt (Concat a b) g h = rw (pow-add 2 (width a) (width b)) (digits_lt (value-lt a g.0 g.2) (value-lt b g.1 g.3))
  value-lt (ZeroExtend a w) g h = lt_of_lt_of_le (value-lt a g.0 g.1) (pow_mono g.2)
  value-lt (SignExtend a w) g h = sext-lt (width a) w (value start a) g.2 (value-lt a g.0 g.1)

  -- so a register's term has 128 bits after any block
  pub block-lt : (cs : List Instruction) → AllLegal cs → (x : ℕ) → x < 32 → value start (tree_run cs Var x) < 2 ^ 128
  block-lt cs k x h =
      let f = fit-block cs k x h in
      let w : width (tree_run cs Var x) ≡ 128 = f.wide in
      rw w at (value-lt (tree_run cs Var x) f.ok (rw w (omega arith)))
