-- The words of a canonical pool (document 02, S-13): a node for each term of a list, its operands by their places in the list.
use Rattle.std.specs.Prelude.{List, [], ◌∷◌, ℕ, ◌/◌, ◌%◌}
use Rattle.terms.specs.Expr.{Expr, Var, Const, Bv, Compare, Ite, Extract, Concat, ZeroExtend, SignExtend, width}
use Rattle.terms.specs.Registers.{registers}
use Rattle.pool.specs.Node.{Kind, var, const, bv, compare, ite, extract, concat, zext, sext, code_of, kind_word, operand_word, Cell}
use Rattle.canonical.specs.Order.{place, postorder}

abbrev pub leaf : Kind → (w x y : ℕ) → Cell
leaf κ w x y = record { kind = κ; width = w; a = 0; b = 0; c = 0; x = x; y = y }

abbrev pub inner : Kind → (w a b c x y : ℕ) → Cell
inner κ w a b c x y = record { kind = κ; width = w; a = a; b = b; c = c; x = x; y = y }

-- the node of t in a pool whose nodes unfold to the terms l
abbrev pub cell_in : List Expr → Expr → Cell
cell_in l (Var r) = leaf var 128 r 0
cell_in l (Const v w) = leaf const w (v % 18446744073709551616) (v / 18446744073709551616)
cell_in l (Bv o a b) = inner (bv o) (width a) (place l a) (place l b) 0 0 0
cell_in l (Compare o a b) = inner (compare o) 0 (place l a) (place l b) 0 0 0
cell_in l (Ite c a b) = inner ite (width a) (place l c) (place l a) (place l b) 0 0
cell_in l (Extract a hi lo) = inner extract (width (Extract a hi lo)) (place l a) 0 0 hi lo
cell_in l (Concat a b) = inner concat (width (Concat a b)) (place l a) (place l b) 0 0 0
cell_in l (ZeroExtend a w) = inner zext w (place l a) 0 0 0 0
cell_in l (SignExtend a w) = inner sext w (place l a) 0 0 0 0

-- its four words; s is the set of the registers beneath it
abbrev pub word0 : Cell → ℕ → ℕ
word0 k s = kind_word (code_of k.kind) k.width s

abbrev pub word1 : Cell → ℕ
word1 k = operand_word k.a k.b k.c

unfoldable pub words_in : List Expr → List Expr → List ℕ
words_in l [] = []
words_in l (t ∷ ts) = word0 (cell_in l t) (registers t) ∷ word1 (cell_in l t) ∷ (cell_in l t).x ∷ (cell_in l t).y ∷ words_in l ts

-- the words of the canonical pool whose last node unfolds to t
unfoldable pub canonical : Expr → List ℕ
canonical t = words_in (postorder t) (postorder t)
