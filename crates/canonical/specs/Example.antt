-- The order of a walk, on an example: of ite(v1 == v0, (v1 + v0), v2[63:0] to 128 bits) the left operand of each term comes before the right one.
use Rattle.std.specs.Prelude.{[], ◌∷◌, ◌≡◌}
use Rattle.terms.specs.declared.BinOp.TheVariants.{Add}
use Rattle.terms.specs.declared.CmpOp.TheVariants.{Eq}
use Rattle.terms.specs.Expr.{Expr, Var, Bv, Compare, Ite, Extract, ZeroExtend}
use Rattle.canonical.specs.Order.{walk}

abbrev pub test : Expr
test = Compare Eq (Var 1) (Var 0)

abbrev pub sum : Expr
sum = Bv Add (Var 1) (Var 0)

abbrev pub low : Expr
low = Extract (Var 2) 63 0

abbrev pub wide : Expr
wide = ZeroExtend low 128

abbrev pub ExampleWalk : Type 0
ExampleWalk = walk (Ite test sum wide) ≡ Var 1 ∷ Var 0 ∷ test ∷ Var 1 ∷ Var 0 ∷ sum ∷ Var 2 ∷ low ∷ wide ∷ Ite test sum wide ∷ []
