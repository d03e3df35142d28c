-- `constant_bit` reads the bit in the low word, in the high word, or in none.
use Rattle.std.proofs.Common.{arith}
use Rattle.gates_pool.proofs.Literals.{low_bit, high_bit, no-bit}
use Rattle.gates_pool.proofs.wires.constant_bit.Goals as goal

pub returns-then-j-lt64 : goal.returns-then-j-lt64
returns-then-j-lt64 c = let a = c.args in low_bit a.low a.high a.j c.if-j-lt64.true

pub returns-then-j-lt128 : goal.returns-then-j-lt128
returns-then-j-lt128 c = let a = c.args in high_bit a.low a.high a.j (omega (arith, c.ranges.low)) c.if-j-lt64.false

pub returns : goal.returns
returns c = let a = c.args in no-bit a.low a.high a.j (omega (arith, c.ranges.low)) (omega (arith, c.ranges.high)) c.if-j-lt128.false
