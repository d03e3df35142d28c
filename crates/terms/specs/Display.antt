-- The text of a term: `Display` of the Rust's expr.rs, as bytes. Registers are v0 to v31.
use Rattle.std.specs.Prelude.{true, false, cond, List, ◌++◌, ℕ, zero, suc, ◌+◌, ◌/◌, ◌%◌, ltb}
use mathlib.Core.List as list
use Prim.Native.String.{String, [], ◌∷◌}
use Prim.Native.Char.{code}
use Rattle.terms.specs.Expr.{BinOp, Add, Sub, Mul, And, Or, Xor, Shl, LShr, AShr, CmpOp, Eq, Ult, Slt, Expr, Var, Const, Bv, Compare, Ite, Extract, Concat, ZeroExtend, SignExtend}

-- the bytes of an ASCII text
abbrev pub bytes : String → List ℕ
bytes [] = list.[]
bytes (c ∷ s) = list.◌∷◌ (code c) (bytes s)

-- the character of a digit below 16: 0 to 9, a to f
abbrev pub digit : ℕ → ℕ
digit x = cond (ltb x 10) (48 + x) (87 + x)

abbrev pub one : ℕ → List ℕ
one x = list.◌∷◌ (digit x) list.[]

-- the digits of x in base b with no leading zeros, at most f + 1 of them
unfoldable pub digits_to : ℕ → ℕ → ℕ → List ℕ
digits_to zero b x = one x
digits_to (suc f) b x = elim (ltb x b) [ true ↦ one x | false ↦ digits_to f b (x / b) ++ one (x % b) ]

unfoldable pub decimal : ℕ → List ℕ
decimal x = digits_to x 10 x

unfoldable pub hexadecimal : ℕ → List ℕ
hexadecimal x = digits_to x 16 x

abbrev pub operator : BinOp → List ℕ
operator Add = bytes " + "
operator Sub = bytes " - "
operator Mul = bytes " * "
operator And = bytes " & "
operator Or = bytes " | "
operator Xor = bytes " ^ "
operator Shl = bytes " << "
operator LShr = bytes " >>u "
operator AShr = bytes " >>s "

abbrev pub comparison : CmpOp → List ℕ
comparison Eq = bytes " == "
comparison Ult = bytes " <u "
comparison Slt = bytes " <s "

unfoldable pub display : Expr → List ℕ
display (Var r) = bytes "v" ++ decimal r
display (Const v w) = bytes "0x" ++ (hexadecimal v ++ (bytes ":" ++ decimal w))
display (Bv o a b) = bytes "(" ++ (display a ++ (operator o ++ (display b ++ bytes ")")))
display (Compare o a b) = bytes "(" ++ (display a ++ (comparison o ++ (display b ++ bytes ")")))
display (Ite c a b) = bytes "ite(" ++ (display c ++ (bytes ", " ++ (display a ++ (bytes ", " ++ (display b ++ bytes ")")))))
display (Extract a hi lo) = display a ++ (bytes "[" ++ (decimal hi ++ (bytes ":" ++ (decimal lo ++ bytes "]"))))
display (Concat a b) = bytes "concat(" ++ (display a ++ (bytes ", " ++ (display b ++ bytes ")")))
display (ZeroExtend a w) = bytes "zext(" ++ (display a ++ (bytes ", " ++ (decimal w ++ bytes ")")))
display (SignExtend a w) = bytes "sext(" ++ (display a ++ (bytes ", " ++ (decimal w ++ bytes ")")))
