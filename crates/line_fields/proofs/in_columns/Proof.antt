-- `in_columns` meets its contract: 24 characters, and six fields that are in columns.
use mathlib.Core.Path.{sym}
use borrow.Author.Tests.{eq-eqb, ne_eqb}
use Rattle.line_fields.specs.Fields.{in_columns}
use borrow.Author.Rules.{rules}
use Rattle.line_fields.proofs.in_columns.Statement.{statement}
use Rattle.line_fields.proofs.in_columns.Tie as tie

returns : tie.Need-returns-then-line-ne24
unfolding in_columns
returns c = sym (rw (ne_eqb _ _ c.if-line-ne24.true))

is-field-requires : tie.Need-is_field-requires
is-field-requires c κs = search rules

is-field-requires-2 : tie.Need-is_field-requires-2
is-field-requires-2 c κs = search rules

is-field-requires-3 : tie.Need-is_field-requires-3
is-field-requires-3 c κs = search rules

is-field-requires-4 : tie.Need-is_field-requires-4
is-field-requires-4 c κs = search rules

is-field-requires-5 : tie.Need-is_field-requires-5
is-field-requires-5 c κs = search rules

is-field-requires-6 : tie.Need-is_field-requires-6
is-field-requires-6 c κs = search rules

returns-2 : tie.Need-returns
unfolding in_columns
returns-2 c =
    let f16 = c in
    let f12 = c in
    let f8 = c in
    let f4 = c in
    let f0 = c in
    rw (
      eq-eqb _ _ f0.if-line-ne24.false,
      f0.is_field.ensures,
      f4.is_field-2.ensures,
      f8.is_field-3.ensures,
      f12.is_field-4.ensures,
      f16.is_field-5.ensures,
      c.is_field-6.ensures,
    )

pub in_columns_spec : {M : Type 1} → statement M
in_columns_spec =
    tie.close
    (tie.spec
    returns
    is-field-requires
    is-field-requires-2
    is-field-requires-3
    is-field-requires-4
    is-field-requires-5
    is-field-requires-6
    returns-2)
