-- The registers that a term names, as one number: bit r for register r (document 02, S-4).
use Rattle.std.specs.Prelude.{ℕ, ◌/◌, ◌%◌, ◌^◌, ◌≡◌}
use Rattle.std.specs.Int.Bits.{bit_or}
use Rattle.terms.specs.Expr.{Expr, Var, Const, Bv, Compare, Ite, Extract, Concat, ZeroExtend, SignExtend}

-- a walk over the whole term
unfoldable pub registers : Expr → ℕ
registers (Var r) = 2 ^ r
registers (Const v w) = 0
registers (Bv o a b) = bit_or (registers a) (registers b)
registers (Compare o a b) = bit_or (registers a) (registers b)
registers (Ite c a b) = bit_or (bit_or (registers c) (registers a)) (registers b)
registers (Extract a hi lo) = registers a
registers (Concat a b) = bit_or (registers a) (registers b)
registers (ZeroExtend a w) = registers a
registers (SignExtend a w) = registers a

-- register x is in the set s
abbrev pub InSet : ℕ → ℕ → Type 0
InSet x s = s / 2 ^ x % 2 ≡ 1

-- two starts agree on the registers of a set
abbrev pub Agree : (r r' : ℕ → ℕ) → ℕ → Type 0
Agree r r' s = (x : ℕ) → InSet x s → r x ≡ r' x
