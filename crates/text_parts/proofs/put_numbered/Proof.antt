-- `put_numbered` meets its contract: a character and a decimal number.
use mathlib.Core.List.{◌∷◌}
use Rattle.terms.specs.Display.{decimal}
use Rattle.text_digits.specs.Writing.{Wrote}
use Rattle.text_digits.proofs.Laws.{room-step, wrote-byte, wrote_then, wrote-length}
use borrow.Author.Rules.{rules}
use Rattle.text_parts.proofs.put_numbered.Statement.{statement}
use Rattle.text_parts.proofs.put_numbered.Tie as tie

written : (c : tie.After-put_decimal) → let a = c.args in Wrote a.buf.now a.at (a.c ∷ decimal a.x) c.put_decimal.result c.put_decimal.new.buf
written c = let a = c.args in wrote_then (wrote-byte a.buf.now a.at a.c) c.put_decimal.ensures

slice-write-buf : tie.Need-bounds-buf-at
slice-write-buf c = search rules

add-put-decimal : tie.Need-overflow_add-at
add-put-decimal c = search rules

put-decimal-requires : tie.Need-put_decimal-requires
put-decimal-requires c κs =
    let s = c in
    room-step (wrote-byte s.args.buf.now s.args.at s.args.c) s.requires

same_length : tie.Need-shape_of-buf
same_length c = wrote-length (written c.before.before)

returns : tie.Need-returns
returns c = written c.before.before

pub put_numbered_spec : {M : Type 1} → statement M
put_numbered_spec =
    tie.close (tie.spec slice-write-buf add-put-decimal put-decimal-requires same_length returns)
