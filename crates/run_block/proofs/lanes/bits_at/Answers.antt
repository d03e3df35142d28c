-- `bits_at` gives the n bits from bit `at` on, of the word that has them.
use mathlib.Core.Path.{◌∙◌}
use native.Mathlib.Omega.{arith}
use Rattle.run_block.proofs.Running.{low-lane, high_lane}
use Rattle.run_block.proofs.lanes.bits_at.Goals as goal

pub returns-then-at-lt64 : goal.returns-then-at-lt64
returns-then-at-lt64 c =
    let a = c.args in
    c.low_bits.ensures ∙ low-lane a.x.low a.x.high a.n a.at.0 (omega arith)

pub returns : goal.returns
returns c =
    let a = c.args in
    c.low_bits-2.ensures ∙ high_lane a.x.low a.x.high a.n a.at.0 (omega arith) (omega arith)
