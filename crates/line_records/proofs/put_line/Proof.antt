-- `line_records::put_line` meets its contract: six fields and a newline, one after the other.
use mathlib.Core.List.{List, [], ◌∷◌, ◌++◌}
use Prim.Native.Nat.{ℕ}
use Rattle.text_digits.specs.Writing.{Room}
use Rattle.line_columns.specs.Columns.{columns}
use Rattle.text_digits.proofs.Laws.{room-front, room-step, wrote_then}
use borrow.Author.Rules.{rules}
use Rattle.line_records.proofs.put_line.Statement.{statement}
use Rattle.line_records.proofs.put_line.Tie as tie

-- ---- what is left of the line after each field, and room for it

abbrev after-5 : ℕ → List ℕ
after-5 m = columns m ++ (10 ∷ [])

abbrev after-4 : (n m : ℕ) → List ℕ
after-4 n m = columns n ++ after-5 m

abbrev after-3 : (d n m : ℕ) → List ℕ
after-3 d n m = columns d ++ after-4 n m

abbrev after-2 : (i d n m : ℕ) → List ℕ
after-2 i d n m = columns i ++ after-3 d n m

abbrev after-1 : (arrangement i d n m : ℕ) → List ℕ
after-1 arrangement i d n m = columns arrangement ++ after-2 i d n m

room-1 : (c : tie.After-put_columns-a) → Room c.put_columns-a.new.buf c.put_columns-a.result (after-1 c.args.arrangement c.args.i c.args.d c.args.n c.args.m)
room-1 c = room-step c.put_columns-a.ensures c.requires.1

room-2 : (c : tie.After-put_columns-b) → Room c.put_columns-b.new.buf c.put_columns-b.result (after-2 c.args.i c.args.d c.args.n c.args.m)
room-2 c = room-step c.put_columns-b.ensures (room-1 c.before.before.before.before)

room-3 : (c : tie.After-put_columns-c) → Room c.put_columns-c.new.buf c.put_columns-c.result (after-3 c.args.d c.args.n c.args.m)
room-3 c = room-step c.put_columns-c.ensures (room-2 c.before.before.before.before)

room-4 : (c : tie.After-put_columns-e) → Room c.put_columns-e.new.buf c.put_columns-e.result (after-4 c.args.n c.args.m)
room-4 c = room-step c.put_columns-e.ensures (room-3 c.before.before.before.before)

room-5 : (c : tie.After-put_columns-f) → Room c.put_columns-f.new.buf c.put_columns-f.result (after-5 c.args.m)
room-5 c = room-step c.put_columns-f.ensures (room-4 c.before.before.before.before)

room-6 : (c : tie.After-put_columns-g) → Room c.put_columns-g.new.buf c.put_columns-g.result (10 ∷ [])
room-6 c = room-step c.put_columns-g.ensures (room-5 c.before.before.before.before)

-- ---- needs

put-columns-requires : tie.Need-put_columns-a-requires
put-columns-requires c κs = (c.requires.0.0, room-front _ c.requires.1)

put-columns-requires-2 : tie.Need-put_columns-b-requires
put-columns-requires-2 c κs = (c.requires.0.1, room-front _ (room-1 c.before.before.before))

put-columns-requires-3 : tie.Need-put_columns-c-requires
put-columns-requires-3 c κs = (c.requires.0.2, room-front _ (room-2 c.before.before.before))

put-columns-requires-4 : tie.Need-put_columns-e-requires
put-columns-requires-4 c κs = (c.requires.0.3, room-front _ (room-3 c.before.before.before))

put-columns-requires-5 : tie.Need-put_columns-f-requires
put-columns-requires-5 c κs = (c.requires.0.4, room-front _ (room-4 c.before.before.before))

put-columns-requires-6 : tie.Need-put_columns-g-requires
put-columns-requires-6 c κs = (c.requires.0.5, room-front _ (room-5 c.before.before.before))

put-requires : tie.Need-put-requires
put-requires c κs = room-6 c.before.before.before.before.before

same_length : tie.Need-shape_of-buf
same_length c = search rules

returns : tie.Need-returns
returns c =
    wrote_then c.put_columns-a.ensures (wrote_then c.put_columns-b.ensures (wrote_then c.put_columns-c.ensures
    (wrote_then c.put_columns-e.ensures (wrote_then c.put_columns-f.ensures (wrote_then c.put_columns-g.ensures c.put.ensures)))))

pub put_line_spec : {M : Type 1} → statement M
put_line_spec =
    tie.close
    (tie.spec
    put-columns-requires
    put-columns-requires-2
    put-columns-requires-3
    put-columns-requires-4
    put-columns-requires-5
    put-columns-requires-6
    put-requires
    same_length
    returns)
