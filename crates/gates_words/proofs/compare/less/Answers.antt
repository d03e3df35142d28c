-- `less` is the inversion of `at_least`.
use lib.Dec.{ltb}
use Rattle.gates_words.specs.Number.{number}
use Rattle.gates_words.proofs.Folds.{less-made}
use Rattle.gates_words.proofs.compare.less.Goals as goal

pub returns : goal.returns
returns c =
    less-made (λ start. ltb (number start c.args.graph.now c.args.bits.now c.args.a c.args.w) (number start c.args.graph.now c.args.bits.now c.args.b c.args.w))
    c.negate.ensures c.at_least-carry.ensures
