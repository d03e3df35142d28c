-- `put_two` writes (f a b), f the function of the kind.
use mathlib.Core.List.{List, [], ◌∷◌}
use Prim.Native.Nat.{ℕ}
use Rattle.terms.specs.Display.{bytes}
use Rattle.text_digits.specs.Writing.{Room}
use Rattle.script_text.proofs.Parts.{together, left}
use Rattle.text_digits.proofs.Laws.{room-front, room-step, room_as, wrote_then, wrote_as}
use Rattle.pool.specs.Node.{kind_at}
use Rattle.script_meaning.specs.Script.{function_of, name_of}
use Rattle.script_text.proofs.Chunks.{applied-2}
use borrow.Author.Rules.{rules}
use Rattle.script_text.proofs.term.put_two.Statement.{statement}
use Rattle.script_text.proofs.term.put_two.Tie as tie

-- ---- places: after each text, with the place before it

-- ---- the texts, and room for those that are left

abbrev texts : tie.Start → List (List ℕ)
texts s =
    let a = s.args in
    bytes "(" ∷ function_of (kind_at a.k) ∷ bytes " " ∷ name_of a.p.now a.a.0 ∷ bytes " " ∷ name_of a.p.now a.b.0 ∷ bytes ")" ∷ []

room : (s : tie.Start) → Room s.args.buf.now s.args.at (together (texts s))
room s = room_as (applied-2 (function_of (kind_at s.args.k)) (name_of s.args.p.now s.args.a.0) (name_of s.args.p.now s.args.b.0)) s.requires.1

room-1 : (c : tie.After-put-i) → Room c.put-i.new.buf c.put-i.result (left 1 (texts c.before.before.before.before.before.before))
room-1 c = room-step c.put-i.ensures (room c.before.before.before.before.before.before)

room-2 : (c : tie.After-put_function-j) → Room c.put_function-j.new.buf c.put_function-j.result (left 2 (texts c.before.before.before.before.before.before.before.before.before.before))
room-2 c = room-step c.put_function-j.ensures (room-1 c.before.before.before.before)

room-3 : (c : tie.After-put-l) → Room c.put-l.new.buf c.put-l.result (left 3 (texts c.before.before.before.before.before.before.before.before.before.before.before.before.before.before.before.before))
room-3 c = room-step c.put-l.ensures (room-2 c.before.before.before.before.before.before)

room-4 : (c : tie.After-put_name-m) → Room c.put_name-m.new.buf c.put_name-m.result (left 4 (texts c.before.before.before.before.before.before.before.before.before.before.before.before.before.before.before.before.before.before.before.before))
room-4 c = room-step c.put_name-m.ensures (room-3 c.before.before.before.before)

room-5 : (c : tie.After-put-o) → Room c.put-o.new.buf c.put-o.result (left 5 (texts c.before.before.before.before.before.before.before.before.before.before.before.before.before.before.before.before.before.before.before.before.before.before.before.before.before.before))
room-5 c = room-step c.put-o.ensures (room-4 c.before.before.before.before.before.before)

room-6 : (c : tie.After-put_name-q) → Room c.put_name-q.new.buf c.put_name-q.result (left 6 (texts c.before.before.before.before.before.before.before.before.before.before.before.before.before.before.before.before.before.before.before.before.before.before.before.before.before.before.before.before.before.before))
room-6 c = room-step c.put_name-q.ensures (room-5 c.before.before.before.before)

-- ---- needs

put-requires : tie.Need-put-i-requires
put-requires c κs = room-front _ (room c.before.before.before.before.before)

put-function-requires : tie.Need-put_function-j-requires
put-function-requires c κs =
    let s = c in
    ((s.requires.0.0, s.requires.0.1), room-front _ (room-1 c.before.before.before))

put-requires-2 : tie.Need-put-l-requires
put-requires-2 c κs = room-front _ (room-2 c.before.before.before.before.before)

put-name-requires : tie.Need-put_name-m-requires
put-name-requires c κs =
    let s = c in
    (s.requires.0.2, room-front _ (room-3 c.before.before.before))

put-requires-3 : tie.Need-put-o-requires
put-requires-3 c κs = room-front _ (room-4 c.before.before.before.before.before)

put-name-requires-2 : tie.Need-put_name-q-requires
put-name-requires-2 c κs =
    let s = c in
    (s.requires.0.3, room-front _ (room-5 c.before.before.before))

put-requires-4 : tie.Need-put-requires
put-requires-4 c κs = room-6 c.before.before.before.before.before

same_length : tie.Need-shape_of-buf
same_length c = search rules

returns : tie.Need-returns
returns c =
    let w7 = c in
    let w6 = c in
    let w5 = c in
    let w4 = c in
    let w3 = c in
    let w2 = c in
    let w1 = c in
    let s = c in
    wrote_as (applied-2 (function_of (kind_at s.args.k)) (name_of s.args.p.now s.args.a.0) (name_of s.args.p.now s.args.b.0))
    (wrote_then w1.put-i.ensures (wrote_then w2.put_function-j.ensures (wrote_then w3.put-l.ensures (wrote_then w4.put_name-m.ensures
    (wrote_then w5.put-o.ensures (wrote_then w6.put_name-q.ensures w7.put.ensures))))))

pub put_two_spec : {M : Type 1} → statement M
put_two_spec =
    tie.close
    (tie.spec
    put-requires
    put-function-requires
    put-requires-2
    put-name-requires
    put-requires-3
    put-name-requires-2
    put-requires-4
    same_length
    returns)
