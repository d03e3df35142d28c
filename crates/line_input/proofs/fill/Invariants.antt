-- `line_input::fill`: the bytes from `from` to `have` are those that the reader gave, and a turn that goes on has read a byte or more.
use Rattle.std.proofs.Common.{◌≡◌, ◌-◌, ◌≤◌, length, take, drop}
use Rattle.std.specs.Io.KnownBytes.{Consumes}
use Rattle.line_input.proofs.fill.Given as goal

abbrev pub invariant-loop-have : goal.invariant-loop-have
invariant-loop-have g l =
    (l.have ≤ length l.input) × (l.from ≤ l.have) × (take l.from l.input ≡ take l.from l.fn.input)
    × Consumes (g.R.Read.remaining l.fn.reader) (g.R.Read.remaining l.reader) (drop l.from (take l.have l.input))

abbrev pub decreases-loop-have : goal.decreases-loop-have
decreases-loop-have g l = length l.input - l.have
