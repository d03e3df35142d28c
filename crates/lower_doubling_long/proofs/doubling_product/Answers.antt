use Rattle.lower_doubling_long.proofs.Multiplying.{product-made}
use Rattle.lower_doubling_long.proofs.doubling_product.Goals as goal

pub returns : goal.returns
returns c = product-made c.args.lane_bits c.double-doubled.ensures c.clamp.ensures
