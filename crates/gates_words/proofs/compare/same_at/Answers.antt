-- `same_at`: the bits so far were the same, and these do not differ.
use Rattle.gates_words.proofs.Folds.{same-made}
use Rattle.gates_words.proofs.compare.same_at.Goals as goal

pub returns : goal.returns
returns c =
    same-made c.args.x c.args.y c.requires.3 c.xor-other.ensures c.negate.ensures c.and.ensures
