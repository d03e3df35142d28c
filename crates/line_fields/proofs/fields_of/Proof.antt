-- `fields_of` meets its contract: each of the six numbers is that of its four columns.
use borrow.Author.Rules.{rules}
use Rattle.line_fields.proofs.fields_of.Statement.{statement}
use Rattle.line_fields.proofs.fields_of.Tie as tie

field-requires : tie.Need-field-requires
field-requires c κs = search rules

field-requires-2 : tie.Need-field-requires-2
field-requires-2 c κs = search rules

field-requires-3 : tie.Need-field-requires-3
field-requires-3 c κs = search rules

field-requires-4 : tie.Need-field-requires-4
field-requires-4 c κs = search rules

field-requires-5 : tie.Need-field-requires-5
field-requires-5 c κs = search rules

field-requires-6 : tie.Need-field-requires-6
field-requires-6 c κs = search rules

returns : tie.Need-returns
returns c =
    let l-field6 = c in
    let l-field5 = l-field6.before in
    let l-field4 = l-field5.before in
    let l-field3 = l-field4.before in
    let l-field2 = l-field3.before in
    let l-field = l-field2.before in
    cc (l-field.field.ensures.0, l-field2.field-2.ensures.0, l-field3.field-3.ensures.0, l-field4.field-4.ensures.0, l-field5.field-5.ensures.0, l-field6.field-6.ensures.0)

pub fields_of_spec : {M : Type 1} → statement M
fields_of_spec =
    tie.close
    (tie.spec
    field-requires
    field-requires-2
    field-requires-3
    field-requires-4
    field-requires-5
    field-requires-6
    returns)
