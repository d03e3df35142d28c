-- Whether two terms are the same tree. The types say what is decided; nothing here has to be believed.
use Rattle.std.proofs.Common.{sym, ap, ◌∙◌}
use Rattle.std.proofs.Math.Decide.{ℕ_discrete}
use Rattle.terms.specs.declared.BinOp.{BinOp}
use Rattle.terms.specs.declared.BinOp.TheVariants.{Add}
use Rattle.terms.specs.declared.CmpOp.{CmpOp}
use Rattle.terms.specs.declared.CmpOp.TheVariants.{Eq}
use Rattle.terms.specs.Expr.{Expr, same_expr}
use Rattle.pool.specs.Node.{Kind, bad, var, const, bv, compare, ite, extract, concat, zext, sext, kind_at, bv_code, compare_code, bv_kind, compare_kind}

abbrev bv_of : Kind → BinOp
bv_of bad = Add
bv_of var = Add
bv_of const = Add
bv_of (bv o) = o
bv_of (compare o) = Add
bv_of ite = Add
bv_of extract = Add
bv_of concat = Add
bv_of zext = Add
bv_of sext = Add

abbrev compare_of : Kind → CmpOp
compare_of bad = Eq
compare_of var = Eq
compare_of const = Eq
compare_of (bv o) = Eq
compare_of (compare o) = o
compare_of ite = Eq
compare_of extract = Eq
compare_of concat = Eq
compare_of zext = Eq
compare_of sext = Eq

same_bv : Discrete BinOp
same_bv o p =
    elim (ℕ_discrete (bv_code o) (bv_code p)) [
      | yes e ↦ yes (ap bv_of (sym (bv_kind o) ∙ ap kind_at e ∙ bv_kind p))
      | no e ↦ no (λ q. e (ap bv_code q))
    ]

same_compare : Discrete CmpOp
same_compare o p =
    elim (ℕ_discrete (compare_code o) (compare_code p)) [
      | yes e ↦ yes (ap compare_of (sym (compare_kind o) ∙ ap kind_at e ∙ compare_kind p))
      | no e ↦ no (λ q. e (ap compare_code q))
    ]

pub same : Discrete Expr
same = same_expr ℕ_discrete same_bv same_compare
