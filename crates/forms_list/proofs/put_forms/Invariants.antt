use Rattle.std.proofs.Common.{◌+◌, ◌-◌}
use Rattle.text_digits.specs.Writing.{Wrote}
use Rattle.text_series.specs.Series.{up_to}
use Rattle.forms_list.specs.Texts.{operation_text}
use Rattle.forms_list.proofs.put_forms.Given as goal

-- the lines of the operations so far are written
abbrev pub invariant-loop-operation : goal.invariant-loop-operation
invariant-loop-operation l = Wrote l.fn.buf l.at (up_to (l.operation - 1) (λ o. operation_text (1 + o))) l.end l.buf
