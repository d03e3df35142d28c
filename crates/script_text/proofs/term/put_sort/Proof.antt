-- `put_sort` writes Bool for width 0, else (_ BitVec w).
use mathlib.Core.List.{◌++◌}
use Rattle.terms.specs.Display.{bytes, decimal}
use Rattle.text_digits.specs.Writing.{Room}
use Rattle.text_digits.proofs.Laws.{room-front, room-step, room_as, wrote_then, wrote_as}
use Rattle.script_text.proofs.Chunks.{short-sort, long-sort}
use borrow.Author.Rules.{rules}
use Rattle.script_text.proofs.term.put_sort.Statement.{statement}
use Rattle.script_text.proofs.term.put_sort.Tie as tie

-- ---- places after each text of a sort that is not Bool, and room for those that are left

room : (c : tie.Else-width-eq0) → let a = c.args in Room a.buf.now a.at (bytes "(_ BitVec " ++ (decimal a.width ++ bytes ")"))
room c = room_as (long-sort _ c.if-width-eq0.false) c.requires

room-1 : (c : tie.After-put-i) → Room c.put-i.new.buf c.put-i.result (decimal c.args.width ++ bytes ")")
room-1 c = room-step c.put-i.ensures (room c.before.before.before.before)

-- ---- needs

put-requires : tie.Need-put-requires
put-requires c κs = let b = c in room_as (short-sort _ b.if-width-eq0.true) b.requires

same_length : tie.Need-shape_of-buf-then-width-eq0
same_length c = search rules

returns : tie.Need-returns-then-width-eq0
returns c = let w = c in wrote_as (short-sort _ w.if-width-eq0.true) w.put.ensures

put-requires-2 : tie.Need-put-i-requires
put-requires-2 c κs = room-front _ (room c.before.before.before)

put-number-requires : tie.Need-put_number-j-requires
put-number-requires c κs = room-front _ (room-1 c.before.before.before)

put-requires-3 : tie.Need-put-requires-2
put-requires-3 c κs = let w2 = c in room-step w2.put_number-j.ensures (room-1 c.before.before.before.before.before.before.before.before.before)

same-length-2 : tie.Need-shape_of-buf
same-length-2 c = search rules

returns-2 : tie.Need-returns
returns-2 c =
    let w3 = c in
    let w2 = c in
    let w1 = c in
    wrote_as (long-sort _ w1.if-width-eq0.false) (wrote_then w1.put-i.ensures (wrote_then w2.put_number-j.ensures w3.put-2.ensures))

pub put_sort_spec : {M : Type 1} → statement M
put_sort_spec =
    tie.close
    (tie.spec
    put-requires
    same_length
    returns
    put-requires-2
    put-number-requires
    put-requires-3
    same-length-2
    returns-2)
