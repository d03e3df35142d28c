-- `shr_bits` gives the number divided by 2^k for k below 64: each word takes bits of the one above.
use Rattle.std.proofs.Common.{refl, arith}
use Rattle.wide.proofs.Shifts.{shr_is}
use Rattle.wide.proofs.shr_bits.Goals as goal

pub returns : goal.returns
returns c = shr_is _ (omega arith) _ (omega arith) c.funnel.ensures c.funnel-2.ensures refl
