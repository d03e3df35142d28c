-- `put_end` meets its contract: the bits of an Extract, or the width of an extension.
use mathlib.Core.List.{◌++◌}
use mathlib.Core.Path.{◌≡◌}
use Rattle.terms.specs.Display.{bytes, decimal}
use Rattle.text_digits.specs.Writing.{Room}
use Rattle.text_digits.proofs.Laws.{room-front, room-step, room_as, wrote_then, wrote_as}
use Rattle.text_parts.specs.Text.{end_text, range_text, width_text}
use Rattle.text_parts.proofs.Operands.{is-single, from-18, to-nineteen}
use Rattle.text_parts.proofs.Tree.{end-range, end-width}
use borrow.Author.Rules.{rules}
use Rattle.text_parts.proofs.put_end.Statement.{statement}
use Rattle.text_parts.proofs.put_end.Tie as tie

-- an Extract, whose bits are read
range-is : (c : tie.After-cut_lo-lo) → let a = c.args in end_text a.p.now a.n.0 ≡ range_text c.cut_hi-hi.result.0 c.cut_lo-lo.result.0
range-is c =
    let l = c in
    let s = c in
    end-range s.args.p.now s.args.n.0 s.requires.0.1 l.if-k-eq-EXTRACT.true l.cut_hi-hi.ensures c.cut_lo-lo.ensures

range-room : (c : tie.After-cut_lo-lo) → let a = c.args in Room a.buf.now a.at (range_text c.cut_hi-hi.result.0 c.cut_lo-lo.result.0)
range-room c = room_as (range-is c) c.requires.1

-- the high bit is written
high-room : (c : tie.After-put_numbered-i)
    → Room c.put_numbered-i.new.buf c.put_numbered-i.result (bytes ":" ++ (decimal c.cut_lo-lo.result.0 ++ bytes "]"))
high-room c = room-step c.put_numbered-i.ensures (range-room c.before.before)

-- an extension, whose width is read
width_is : (c : tie.After-width_of) → let a = c.args in end_text a.p.now a.n.0 ≡ width_text c.width_of.result
width_is c =
    let s = c in
    let a = s.args in
    let h = s.requires.0 in
    end-width a.p.now a.n.0 h.1 (from-18 (is-single _ h.2) c.if-k-eq-EXTRACT.false) (to-nineteen a.p.now a.n.0 h.0 a.k h.1) c.width_of.ensures.0

cut-hi-requires : tie.Need-cut_hi-hi-requires
cut-hi-requires c κs = search rules

cut-lo-requires : tie.Need-cut_lo-lo-requires
cut-lo-requires c κs = search rules

put-numbered-requires : tie.Need-put_numbered-i-requires
put-numbered-requires c κs = room-front _ (range-room c.before)

put-numbered-requires-2 : tie.Need-put_numbered-j-requires
put-numbered-requires-2 c κs = room-front _ (high-room c.before.before.before)

put-requires : tie.Need-put-requires
put-requires c κs =
    let q = c in
    room-step q.put_numbered-j.ensures (high-room q.before.before.before.before.before.before.before.before.before)

same_length : tie.Need-shape_of-buf-then-k-eq-EXTRACT
same_length c = search rules

returns : tie.Need-returns-then-k-eq-EXTRACT
returns c =
    let e = c in
    let q = c in
    let p = c in
    wrote_as (range-is c.before.before.before.before.before.before.before.before.before.before.before.before.before.before) (wrote_then p.put_numbered-i.ensures (wrote_then q.put_numbered-j.ensures e.put.ensures))

width-of-requires : tie.Need-width_of-requires
width-of-requires c κs = search rules

put-width-requires : tie.Need-put_width-requires
put-width-requires c κs = let w = c in room_as (width_is c.before) w.requires.1

same-length-2 : tie.Need-shape_of-buf
same-length-2 c = search rules

returns-2 : tie.Need-returns
returns-2 c = let p = c in wrote_as (width_is c.before.before.before.before) p.put_width.ensures

pub put_end_spec : {M : Type 1} → statement M
put_end_spec =
    tie.close
    (tie.spec
    cut-hi-requires
    cut-lo-requires
    put-numbered-requires
    put-numbered-requires-2
    put-requires
    same_length
    returns
    width-of-requires
    put-width-requires
    same-length-2
    returns-2)
