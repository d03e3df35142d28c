use Rattle.std.proofs.Common.{◌+◌, take}
use Rattle.text_digits.specs.Writing.{Wrote}
use Rattle.text_digits.proofs.put.Given as goal

-- the first j bytes are written
abbrev pub invariant-loop-j : goal.invariant-loop-j
invariant-loop-j l = Wrote l.fn.buf l.at (take l.j l.s) (l.at + l.j) l.buf
