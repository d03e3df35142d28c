-- `halve` gives `read_bits`: the number, or its low 64 bits.
use native.Mathlib.Omega.{arith}
use Rattle.run_block.proofs.Running.{low_half}
use Rattle.run_block.proofs.halve.Goals as goal

pub returns-then-whole : goal.returns-then-whole
returns-then-whole c = rw c.if-whole.true

pub returns : goal.returns
returns c = rw c.if-whole.false (low_half _ _ (omega arith))
