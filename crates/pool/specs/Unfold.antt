-- The term that a node unfolds to, for any words, damaged ones too.
use Rattle.std.specs.Prelude.{Bool, true, false, List, ℕ, zero, suc, ltb}
use Rattle.terms.specs.Expr.{Expr, Var, Const, Bv, Compare, Ite, Extract, Concat, ZeroExtend, SignExtend}
use Rattle.pool.specs.Node.{Kind, bad, var, const, bv, compare, ite, extract, concat, zext, sext, Cell, cell_at, wide}

-- the term of a node, over those of its operands. What is no kind stands for Var 0.
abbrev pub shape_of : Kind → Cell → Expr → Expr → Expr → Expr
shape_of bad k A B C = Var 0
shape_of var k A B C = Var k.x
shape_of const k A B C = Const (wide k.x k.y) k.width
shape_of (bv o) k A B C = Bv o A B
shape_of (compare o) k A B C = Compare o A B
shape_of ite k A B C = Ite A B C
shape_of extract k A B C = Extract A k.x k.y
shape_of concat k A B C = Concat A B
shape_of zext k A B C = ZeroExtend A k.width
shape_of sext k A B C = SignExtend A k.width

abbrev pub shape : Cell → Expr → Expr → Expr → Expr
shape k A B C = shape_of k.kind k A B C

-- an operand has a smaller number than its node; one that has not stands for Var 0
abbrev pub earlier : Bool → Expr → Expr
earlier true e = e
earlier false e = Var 0

-- at most f levels deep
unfoldable pub unfold_to : ℕ → List ℕ → ℕ → Expr
unfold_to zero ws n = Var 0
unfold_to (suc f) ws n =
    let k = cell_at ws n in
    shape k (earlier (ltb k.a n) (unfold_to f ws k.a)) (earlier (ltb k.b n) (unfold_to f ws k.b)) (earlier (ltb k.c n) (unfold_to f ws k.c))

-- operands have smaller numbers, so n + 1 levels are enough
unfoldable pub unfold_at : List ℕ → ℕ → Expr
unfold_at ws n = unfold_to (suc n) ws n
