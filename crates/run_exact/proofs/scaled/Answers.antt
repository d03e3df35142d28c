-- `scaled` holds the integer times 2^k, in k bits more.
use Rattle.run_exact.proofs.Laws.{scaled-held}
use Rattle.run_exact.proofs.scaled.Goals as goal

pub returns : goal.returns
returns c = scaled-held c.args.k c.shl.ensures
