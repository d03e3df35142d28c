-- `signed_less`: if the signs differ the first one decides, else `less`.
use Rattle.gates_words.proofs.Folds.{signed-made}
use Rattle.gates_words.proofs.compare.signed_less.Goals as goal

pub returns : goal.returns
returns c =
    signed-made c.args.bits.now c.args.a c.args.b c.requires.3 c.requires.1 c.requires.2 c.less-below.ensures c.xor-signs.ensures c.mux.ensures
