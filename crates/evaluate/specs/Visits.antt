-- The value of a node's term at a start, and the visits that it takes (document 02, S-6).
use Rattle.std.specs.Prelude.{List, ℕ, suc, ◌+◌}
use Rattle.terms.specs.Expr.{Expr, Var, Const, Bv, Compare, Ite, Extract, Concat, ZeroExtend, SignExtend}
use Rattle.terms.specs.Value.{value, ite}
use Rattle.pool.specs.Unfold.{unfold_at}
use Rattle.wide.specs.Registers.{registers_of}

-- each visit counts one, to a shared node too: of an Ite the condition and the chosen arm are visited, of any other term all operands
unfoldable pub visits : (ℕ → ℕ) → Expr → ℕ
visits r (Var x) = 1
visits r (Const v w) = 1
visits r (Bv o a b) = suc (visits r a + visits r b)
visits r (Compare o a b) = suc (visits r a + visits r b)
visits r (Ite c a b) = suc (visits r c + ite (value r c) (visits r a) (visits r b))
visits r (Extract a hi lo) = suc (visits r a)
visits r (Concat a b) = suc (visits r a + visits r b)
visits r (ZeroExtend a w) = suc (visits r a)
visits r (SignExtend a w) = suc (visits r a)

-- of node n, at the start that 64 words hold
unfoldable pub value_at : List ℕ → List ℕ → ℕ → ℕ
value_at ws regs n = value (registers_of regs) (unfold_at ws n)

unfoldable pub visits_at : List ℕ → List ℕ → ℕ → ℕ
visits_at ws regs n = visits (registers_of regs) (unfold_at ws n)
