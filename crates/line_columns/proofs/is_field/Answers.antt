-- `is_field` meets its contract: the four tests are that of a number in columns.
use Rattle.std.proofs.Common.{ap, ℕ, ◌+◌, ◌*◌}
use Rattle.line_columns.proofs.Fields.{field_is}
use Rattle.line_columns.proofs.is_field.Goals as goal

pub returns : goal.returns
returns c =
    let a = c.digit-a in
    field_is c.args.line.now c.args.at c.requires a.ensures.0
    (ap (λ (z : ℕ). 10 * a.result + z) c.digit.ensures.0)
    (ap (λ (z : ℕ). 10 * (10 * a.result + c.digit.result) + z) c.digit-2.ensures.0)
    c.stands.ensures c.stands-2.ensures c.stands-3.ensures c.is_ascii_digit.ensures.value
