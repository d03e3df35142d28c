-- `put_width` meets its contract: a comma, the width, a closing bracket.
use Rattle.text_digits.proofs.Laws.{room-front, room-step, wrote_then}
use borrow.Author.Rules.{rules}
use Rattle.text_parts.proofs.put_width.Statement.{statement}
use Rattle.text_parts.proofs.put_width.Tie as tie

-- ---- the places after the comma and after the number

put-requires : tie.Need-put-i-requires
put-requires c κs = search rules

put-decimal-requires : tie.Need-put_decimal-j-requires
put-decimal-requires c κs = let w = c in room-front _ (room-step w.put-i.ensures w.requires)

put-requires-2 : tie.Need-put-requires
put-requires-2 c κs =
    let n = c in
    room-step n.put_decimal-j.ensures (room-step n.put-i.ensures n.requires)

same_length : tie.Need-shape_of-buf
same_length c = search rules

returns : tie.Need-returns
returns c =
    let w = c in
    let n = c in
    wrote_then n.put-i.ensures (wrote_then n.put_decimal-j.ensures w.put.ensures)

pub put_width_spec : {M : Type 1} → statement M
put_width_spec =
    tie.close
    (tie.spec
    put-requires
    put-decimal-requires
    put-requires-2
    same_length
    returns)
