-- `at_least_at` is the majority with one literal inverted.
use Rattle.gates_words.proofs.Folds.{at-least-made}
use Rattle.gates_words.proofs.compare.at_least_at.Goals as goal

pub returns : goal.returns
returns c =
    at-least-made c.args.x c.args.y c.args.carry c.negate.ensures c.majority.ensures
