-- `put_equation` writes the line of an equation. Assumes nothing.
use mathlib.Core.List.{List, [], ◌∷◌}
use Prim.Native.Nat.{ℕ}
use Rattle.terms.specs.Display.{bytes}
use Rattle.text_digits.specs.Writing.{Room}
use Rattle.script_meaning.specs.Sexp.{show}
use Rattle.script_meaning.specs.Script.{node_name, term_of}
use Rattle.script_text.proofs.Parts.{together, left}
use Rattle.text_digits.proofs.Laws.{room-front, room-step, room_as, wrote_then, wrote_as}
use Rattle.script_lane_text.proofs.Spelling.{equation-is}
use borrow.Author.Rules.{rules}
use Rattle.script_lane_text.proofs.put_equation.Statement.{statement}
use Rattle.script_lane_text.proofs.put_equation.Tie as tie

-- ---- places: after each text, with the place before it

-- ---- the texts, and room for those that are left

abbrev texts : tie.Start → List (List ℕ)
texts s = bytes "(assert (= " ∷ node_name s.args.n.0 ∷ bytes " " ∷ show (term_of s.args.p.now s.args.n.0) ∷ bytes "))\n" ∷ []

room : (s : tie.Start) → Room s.args.buf.now s.args.at (together (texts s))
room s = room_as (equation-is s.args.p.now s.args.n.0) s.requires.1

room-1 : (c : tie.After-put-i) → Room c.put-i.new.buf c.put-i.result (left 1 (texts c.before.before.before.before.before.before))
room-1 c = room-step c.put-i.ensures (room c.before.before.before.before.before.before)

room-2 : (c : tie.After-put_node_name-name) → Room c.put_node_name-name.new.buf c.put_node_name-name.result (left 2 (texts c.before.before.before.before.before.before.before.before.before.before))
room-2 c = room-step c.put_node_name-name.ensures (room-1 c.before.before.before.before)

room-3 : (c : tie.After-put-l) → Room c.put-l.new.buf c.put-l.result (left 3 (texts c.before.before.before.before.before.before.before.before.before.before.before.before.before.before.before.before))
room-3 c = room-step c.put-l.ensures (room-2 c.before.before.before.before.before.before)

room-4 : (c : tie.After-put_term-m) → Room c.put_term-m.new.buf c.put_term-m.result (left 4 (texts c.before.before.before.before.before.before.before.before.before.before.before.before.before.before.before.before.before.before.before.before))
room-4 c = room-step c.put_term-m.ensures (room-3 c.before.before.before.before)

-- ---- needs

put-requires : tie.Need-put-i-requires
put-requires c κs = room-front _ (room c.before.before.before.before.before)

put-node-name-requires : tie.Need-put_node_name-name-requires
put-node-name-requires c κs = room-front _ (room-1 c.before.before.before)

put-requires-2 : tie.Need-put-l-requires
put-requires-2 c κs = room-front _ (room-2 c.before.before.before.before.before)

put-term-requires : tie.Need-put_term-m-requires
put-term-requires c κs =
    let s = c in
    (s.requires.0, room-front _ (room-3 c.before.before.before))

put-requires-3 : tie.Need-put-requires
put-requires-3 c κs = room-4 c.before.before.before.before.before

same_length : tie.Need-shape_of-buf
same_length c = search rules

returns : tie.Need-returns
returns c =
    let w5 = c in
    let w4 = c in
    let w3 = c in
    let w2 = c in
    let w1 = c in
    let s = c in
    wrote_as (equation-is s.args.p.now s.args.n.0)
    (wrote_then w1.put-i.ensures (wrote_then w2.put_node_name-name.ensures (wrote_then w3.put-l.ensures
    (wrote_then w4.put_term-m.ensures w5.put.ensures))))

pub put_equation_spec : {M : Type 1} → statement M
put_equation_spec =
    tie.close
    (tie.spec
    put-requires
    put-node-name-requires
    put-requires-2
    put-term-requires
    put-requires-3
    same_length
    returns)
