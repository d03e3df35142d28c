-- The value of a term: the SMT-LIB theory FixedSizeBitVectors, with the abbreviations of its logic QF_BV.
-- A bit-vector of m bits is the natural number bv2nat of it, below 2 ^ m. A condition is 1 or 0.
use Rattle.std.specs.Prelude.{Bool, cond, ◌&&◌, ◌||◌, ℕ, zero, suc, ◌+◌, ◌-◌, ◌*◌, ◌/◌, ◌%◌, ◌^◌, ltb, eqb}
use Rattle.std.specs.Int.Bits.{bit_and, bit_or, bit_xor}
use Rattle.terms.specs.Expr.{BinOp, Add, Sub, Mul, And, Or, Xor, Shl, LShr, AShr, CmpOp, Eq, Ult, Slt, Expr, Var, Const, Bv, Compare, Ite, Extract, Concat, ZeroExtend, SignExtend, width}

-- the most significant bit: extract m-1 m-1
unfoldable pub msb : ℕ → ℕ → ℕ
msb m s = s / 2 ^ (m - 1) % 2

-- nat2bv[m](2^m - bv2nat(s))
unfoldable pub bvneg : ℕ → ℕ → ℕ
bvneg m s = (2 ^ m - s) % 2 ^ m

-- each bit inverted
unfoldable pub bvnot : ℕ → ℕ → ℕ
bvnot m s = (2 ^ m - 1) - s

-- nat2bv[m](bv2nat(s) + bv2nat(t))
unfoldable pub bvadd : ℕ → ℕ → ℕ → ℕ
bvadd m s t = (s + t) % 2 ^ m

-- bvadd s (bvneg t)
unfoldable pub bvsub : ℕ → ℕ → ℕ → ℕ
bvsub m s t = bvadd m s (bvneg m t)

-- nat2bv[m](bv2nat(s) * bv2nat(t))
unfoldable pub bvmul : ℕ → ℕ → ℕ → ℕ
bvmul m s t = (s * t) % 2 ^ m

-- nat2bv[m](bv2nat(s) * 2^(bv2nat(t)))
unfoldable pub bvshl : ℕ → ℕ → ℕ → ℕ
bvshl m s t = (s * 2 ^ t) % 2 ^ m

-- nat2bv[m](bv2nat(s) div 2^(bv2nat(t)))
unfoldable pub bvlshr : ℕ → ℕ → ℕ → ℕ
bvlshr m s t = s / 2 ^ t % 2 ^ m

-- ite (= msb(s) 0) (bvlshr s t) (bvnot (bvlshr (bvnot s) t))
unfoldable pub bvashr : ℕ → ℕ → ℕ → ℕ
bvashr m s t = cond (eqb (msb m s) 0) (bvlshr m s t) (bvnot m (bvlshr m (bvnot m s) t))

-- (msb(s) = 1 and msb(t) = 0) or (msb(s) = msb(t) and bvult s t)
unfoldable pub bvslt : ℕ → ℕ → ℕ → Bool
bvslt m s t = eqb (msb m s) 1 && eqb (msb m t) 0 || eqb (msb m s) (msb m t) && ltb s t

-- concat (repeat (w - m) msb(s)) s
unfoldable pub bvsext : ℕ → ℕ → ℕ → ℕ
bvsext m w s = msb m s * (2 ^ (w - m) - 1) * 2 ^ m + s

-- an operator at m bits
abbrev pub apply : BinOp → ℕ → ℕ → ℕ → ℕ
apply Add m s t = bvadd m s t
apply Sub m s t = bvsub m s t
apply Mul m s t = bvmul m s t
apply And m s t = bit_and s t
apply Or m s t = bit_or s t
apply Xor m s t = bit_xor s t
apply Shl m s t = bvshl m s t
apply LShr m s t = bvlshr m s t
apply AShr m s t = bvashr m s t

-- a comparison of numbers of m bits
abbrev pub holds : CmpOp → ℕ → ℕ → ℕ → Bool
holds Eq m s t = eqb s t
holds Ult m s t = ltb s t
holds Slt m s t = bvslt m s t

-- a condition as a number, and the choice by it
abbrev pub bit : Bool → ℕ
bit c = cond c 1 0

abbrev pub ite : ℕ → ℕ → ℕ → ℕ
ite zero t e = e
ite (suc c) t e = t

-- the value of a term at the start r, Var x being register x
unfoldable pub value : (ℕ → ℕ) → Expr → ℕ
value r (Var x) = r x
value r (Const v w) = v
value r (Bv o a b) = apply o (width a) (value r a) (value r b)
value r (Compare o a b) = bit (holds o (width a) (value r a) (value r b))
value r (Ite c a b) = ite (value r c) (value r a) (value r b)
value r (Extract a hi lo) = value r a / 2 ^ lo % 2 ^ suc (hi - lo)
value r (Concat a b) = value r a * 2 ^ width b + value r b
value r (ZeroExtend a w) = value r a
value r (SignExtend a w) = bvsext (width a) w (value r a)
