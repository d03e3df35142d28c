-- `put_lane_script` writes the whole script. Assumes nothing.
use mathlib.Core.List.{List, [], ◌∷◌}
use Prim.Native.Nat.{ℕ}
use Rattle.terms.specs.Display.{bytes}
use Rattle.text_digits.specs.Writing.{Room}
use Rattle.text_series.specs.Series.{up_to}
use Rattle.script_text.specs.Lines.{declaration_line}
use Rattle.script_lane_text.specs.Lines.{lines_at, lane_lines}
use Rattle.script_text.proofs.Parts.{together, left}
use Rattle.text_digits.proofs.Laws.{room-front, room-step, room_as, wrote_then, wrote_as}
use Rattle.script_lane_text.proofs.Spelling.{script-lines}
use borrow.Author.Rules.{rules}
use Rattle.script_lane_text.proofs.put_lane_script.Statement.{statement}
use Rattle.script_lane_text.proofs.put_lane_script.Tie as tie

-- ---- places: after each text, with the place before it

-- ---- the texts, and room for those that are left

abbrev texts : tie.Start → List (List ℕ)
texts s =
    let a = s.args in
    bytes "(set-logic QF_BV)\n" ∷ up_to 32 declaration_line ∷ up_to a.count (lines_at a.p.now) ∷ lane_lines a.p.now a.x.0 a.y.0 a.hi.0 a.lo.0 ∷ []

room : (s : tie.Start) → Room s.args.buf.now s.args.at (together (texts s))
room s = room_as (script-lines s.args.p.now s.args.count s.args.x.0 s.args.y.0 s.args.hi.0 s.args.lo.0) s.requires.1

room-1 : (c : tie.After-put-i) → Room c.put-i.new.buf c.put-i.result (left 1 (texts c.before.before.before.before.before.before))
room-1 c = room-step c.put-i.ensures (room c.before.before.before.before.before.before)

room-2 : (c : tie.After-put_declarations-j) → Room c.put_declarations-j.new.buf c.put_declarations-j.result (left 2 (texts c.before.before.before.before.before.before.before.before.before.before))
room-2 c = room-step c.put_declarations-j.ensures (room-1 c.before.before.before.before)

room-3 : (c : tie.After-put_nodes-l) → Room c.put_nodes-l.new.buf c.put_nodes-l.result (left 3 (texts c.before.before.before.before.before.before.before.before.before.before.before.before.before.before))
room-3 c = room-step c.put_nodes-l.ensures (room-2 c.before.before.before.before)

-- ---- needs

put-requires : tie.Need-put-i-requires
put-requires c κs = room-front _ (room c.before.before.before.before.before)

put-declarations-requires : tie.Need-put_declarations-j-requires
put-declarations-requires c κs = room-front _ (room-1 c.before.before.before)

put-nodes-requires : tie.Need-put_nodes-l-requires
put-nodes-requires c κs =
    let s = c in
    (s.requires.0.0, room-front _ (room-2 c.before.before.before))

put-lanes-requires : tie.Need-put_lanes-requires
put-lanes-requires c κs =
    let s = c in
    ((s.requires.0.1, s.requires.0.2), room-3 c.before.before.before)

same_length : tie.Need-shape_of-buf
same_length c = search rules

returns : tie.Need-returns
returns c =
    let w4 = c in
    let w3 = c in
    let w2 = c in
    let w1 = c in
    let s = c in
    wrote_as (script-lines s.args.p.now s.args.count s.args.x.0 s.args.y.0 s.args.hi.0 s.args.lo.0)
    (wrote_then w1.put-i.ensures (wrote_then w2.put_declarations-j.ensures (wrote_then w3.put_nodes-l.ensures w4.put_lanes.ensures)))

pub put_lane_script_spec : {M : Type 1} → statement M
put_lane_script_spec =
    tie.close
    (tie.spec
    put-requires
    put-declarations-requires
    put-nodes-requires
    put-lanes-requires
    same_length
    returns)
