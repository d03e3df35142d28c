-- `field` meets its contract: the number that four characters show.
use Rattle.std.proofs.Common.{arith}
use Rattle.line_columns.specs.Columns.{field_at}
use Rattle.line_columns.proofs.field.Goals as goal

pub returns : goal.returns
unfolding field_at
returns c =
    let a = c.digit-a.ensures in
    let b = c.digit-b.ensures in
    let tens = c.digit-c.ensures in
    let ones = c.digit-d.ensures in
    (cc (a.0, b.0, tens.0, ones.0), omega (arith, a.1, b.1, tens.1, ones.1))
