-- `low_bits` gives x modulo 2^k: all of x, or an And with 2^k - 1.
use lib.Bits.{and_mask}
use Rattle.wide.proofs.low_bits.Goals as goal

pub returns : goal.returns
returns c = rw c.power.ensures (and_mask c.args.x c.args.k)
