-- `shl_bits` gives `bvshl 192` for a shift below 64: each word takes bits of the one below.
use Rattle.std.proofs.Common.{refl, arith}
use Rattle.wide.proofs.Shifts.{no-left, shl_is}
use Rattle.wide.proofs.shl_bits.Goals as goal

pub returns-then-k-eq0 : goal.returns-then-k-eq0
returns-then-k-eq0 c = no-left _ (omega arith) _ c.if-k-eq0.true

pub returns : goal.returns
returns c = shl_is _ (omega arith) _ (omega arith) (omega arith) refl c.funnel.ensures c.funnel-2.ensures
