use Rattle.std.proofs.Common.{◌-◌}
use Rattle.text_decimals.proofs.Digits.{Left}
use Rattle.text_decimals.proofs.put_number.Given as goal

-- the digits of the units so far are written
abbrev pub invariant-loop-unit : goal.invariant-loop-unit
invariant-loop-unit l = Left l.fn.buf l.at l.x (5 - l.unit-index) l.rest l.end l.buf
