-- `written` meets its contract: the four characters are those of the number in columns.
use Rattle.std.proofs.Common.{arith, ◌≡◌, sym, ap, ◌∙◌, ◌/◌}
use Rattle.line_columns.specs.Columns.{character_of}
use Rattle.line_columns.proofs.Characters.{four, columns-are}
use Rattle.line_columns.proofs.written.Goals as goal

pub returns : goal.returns
returns c =
    let x = c.args.x in
    let tens = c.tens_of-tens.ensures in
    let hundreds : c.tens_of-hundreds.result.tens ≡ x / 100 = omega (arith, tens, c.tens_of-hundreds.ensures) in
    let thousands : c.tens_of-thousands.result.tens ≡ x / 1000 = omega (arith, hundreds, c.tens_of-thousands.ensures) in
    four
    (c.character.ensures ∙ ap character_of thousands)
    (c.character-2.ensures ∙ ap character_of hundreds)
    (c.character-3.ensures ∙ ap character_of {x = c.tens_of-tens.result.tens} {y = x / 10} (omega (arith, tens)))
    (omega (arith, tens))
    ∙ sym (columns-are x c.requires)
