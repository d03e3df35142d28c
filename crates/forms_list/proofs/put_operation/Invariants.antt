use Rattle.text_digits.specs.Writing.{Wrote}
use Rattle.text_series.specs.Series.{up_to}
use Rattle.forms_list.specs.Texts.{arrangement_text}
use Rattle.forms_list.proofs.put_operation.Given as goal

-- the lines of the arrangements so far are written
abbrev pub invariant-loop-arrangement : goal.invariant-loop-arrangement
invariant-loop-arrangement l = Wrote l.fn.buf l.at (up_to l.arrangement (λ a. arrangement_text l.operation a)) l.end l.buf
