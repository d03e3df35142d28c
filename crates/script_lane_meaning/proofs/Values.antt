-- A node's value is one that its sort has; the model that gives each name of a script its node's value. Assumes nothing.
use mathlib.Core.Path.{◌≡◌, ap}
use mathlib.Core.Bool.{Bool, true, false, cond}
use mathlib.Core.List.{List, [], ◌∷◌}
use Prim.Native.Nat.{ℕ, zero, suc, ◌^◌, ◌<◌}
use native.Mathlib.Omega.{arith}
use lib.Dec.{eqb}
use Rattle.terms.specs.Expr.{Expr, Var, Const, Bv, Compare, Ite, Extract, Concat, ZeroExtend, SignExtend, width}
use Rattle.terms.specs.Value.{value, holds, bit}
use Rattle.terms.specs.Rules.{Good}
use Rattle.trees_value.proofs.Range.{value-lt}
use Rattle.pool.specs.Node.{width_at}
use Rattle.pool.specs.Rules.{Valid}
use Rattle.pool.specs.Unfold.{unfold_at}
use Rattle.pool_check.proofs.Sound.{sound}
use Rattle.script_meaning.specs.Values.{number}
use Rattle.script_meaning.specs.Meaning.{values_of}
use Rattle.script_meaning.specs.Script.{register_name, node_name}
use Rattle.script_meaning.proofs.Numbers.{decimal-number}

bit-lt : (b : Bool) → bit b < 2
bit-lt true = omega arith
bit-lt false = omega arith

-- only comparisons have no width
condition-lt : (start : ℕ → ℕ) (t : Expr) → Good t → width t ≡ 0 → value start t < 2
unfolding value width Good
condition-lt start (Var x) g e = absurd (omega arith)
condition-lt start (Const v w) g e = absurd (omega arith)
condition-lt start (Bv o a b) g e = absurd (omega arith)
condition-lt start (Compare o a b) g e = bit-lt (holds o (width a) (value start a) (value start b))
condition-lt start (Ite c a b) g e = absurd (omega arith)
condition-lt start (Extract a hi lo) g e = absurd (omega arith)
condition-lt start (Concat a b) g e = absurd (omega arith)
condition-lt start (ZeroExtend a w) g e = absurd (omega arith)
condition-lt start (SignExtend a w) g e = absurd (omega arith)

module _ (start : ℕ → ℕ) (bits : (r : ℕ) → r < 32 → start r < 2 ^ 128) where
  fits : (t : Expr) (w : ℕ) → Good t → width t ≡ w → value start t < values_of w
  fits t zero g e = condition-lt start t g e
  fits t (suc w) g e = rw e at (value-lt start bits t g (omega arith))

  pub value-fits : (ws : List ℕ) (count n : ℕ) → Valid ws count → n < count → value start (unfold_at ws n) < values_of (width_at ws n)
  value-fits ws count n valid h = let s = sound ws count valid n h in fits (unfold_at ws n) (width_at ws n) s.ok s.wide

module _ (ws : List ℕ) (start : ℕ → ℕ) where
  -- r and a number, or n and a number
  abbrev pub pool_model : List ℕ → ℕ
  pool_model [] = 0
  pool_model (c ∷ ds) = cond (eqb c 114) (start (number 10 0 ds)) (value start (unfold_at ws (number 10 0 ds)))

  pub model-register : (r : ℕ) → pool_model (register_name r) ≡ start r
  model-register r = ap start (decimal-number r)

  pub model-node : (n : ℕ) → pool_model (node_name n) ≡ value start (unfold_at ws n)
  model-node n = ap (λ (m : ℕ). value start (unfold_at ws m)) (decimal-number n)
