-- `join` holds the difference for Sub and else the sum, in one bit more.
use Rattle.run_exact.proofs.Laws.{sum-held, less-held, joined-sum, joined-less}
use mathlib.Core.Path.{sym, ◌∙◌}
use Rattle.run_exact.proofs.join.Goals as goal

pub returns-then-is_sub : goal.returns-then-is_sub
returns-then-is_sub c =
    λ w x y hw p q. joined-less c.args.op (sym c.is_sub.ensures ∙ c.if-is_sub.true) x y
    (less-held c.sub.ensures w x y hw p q)

pub returns : goal.returns
returns c =
    λ w x y hw p q. joined-sum c.args.op (sym c.is_sub.ensures ∙ c.if-is_sub.false) x y (sum-held c.add.ensures w x y hw p q)
