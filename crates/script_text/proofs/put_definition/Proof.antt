-- `put_definition` writes the line of a node, and nothing for a Var.
use mathlib.Core.List.{List, [], ◌∷◌}
use Rattle.terms.specs.Display.{bytes}
use Rattle.text_digits.specs.Writing.{Room}
use Rattle.script_meaning.specs.Sexp.{show}
use Rattle.script_meaning.specs.Script.{node_name, sort_by, term_of}
use Rattle.script_text.specs.Lines.{line_at}
use Rattle.script_text.proofs.Parts.{together, left}
use Rattle.text_digits.proofs.Laws.{room-front, room-step, room_as, wrote_none, wrote_then, wrote_as}
use mathlib.Core.Path.{◌≡◌, sym, ◌∙◌}
use native.Mathlib.Omega.{arith}
use Prim.Native.Nat.{ℕ, ◌≤◌}
use Rattle.script_text.proofs.Nodes.{kind-above}
use Rattle.script_text.proofs.Spelling.{no_line, line-with}
use borrow.Author.Rules.{rules}
use Rattle.script_text.proofs.put_definition.Statement.{statement}
use Rattle.script_text.proofs.put_definition.Tie as tie

-- ---- places: after each text, with the place before it

from-two : (k : ℕ) → 1 ≤ k → (k ≡ 1 → ⊥) → 2 ≤ k
from-two k h f = omega arith

-- the node's kind is from 2 on
other : (c : tie.After-width_of-w) → 2 ≤ c.kind_of-k.result
other c =
    let s = c in
    let k = c.kind_of-k in
    from-two k.result (kind-above s.args.p.now s.args.n.0 s.requires.0 k.result k.ensures) c.if-k-eq-VAR.false

-- ---- the texts, and room for those that are left

abbrev texts : tie.After-width_of-w → List (List ℕ)
texts s =
    let a = s.args in
    bytes "(define-fun " ∷ node_name a.n.0 ∷ bytes " () " ∷ show (sort_by s.width_of-w.result) ∷ bytes " " ∷ show (term_of a.p.now a.n.0) ∷ bytes ")\n" ∷ []

spelled : (s : tie.After-width_of-w) → line_at s.args.p.now s.args.n.0 ≡ together (texts s)
spelled s =
    let a = s.args in
    let k = s.kind_of-k in
    line-with a.p.now a.n.0 k.result s.width_of-w.result k.ensures s.if-k-eq-VAR.false s.width_of-w.ensures.0

room : (s : tie.After-width_of-w) → Room s.args.buf.now s.args.at (together (texts s))
room s = room_as (spelled s) s.requires.1

room-1 : (c : tie.After-put-i) → Room c.put-i.new.buf c.put-i.result (left 1 (texts c.before.before.before.before))
room-1 c = room-step c.put-i.ensures (room c.before.before.before.before)

room-2 : (c : tie.After-put_node_name-j) → Room c.put_node_name-j.new.buf c.put_node_name-j.result (left 2 (texts c.before.before.before.before.before.before.before.before))
room-2 c = room-step c.put_node_name-j.ensures (room-1 c.before.before.before.before)

room-3 : (c : tie.After-put-l) → Room c.put-l.new.buf c.put-l.result (left 3 (texts c.before.before.before.before.before.before.before.before.before.before.before.before.before.before))
room-3 c = room-step c.put-l.ensures (room-2 c.before.before.before.before.before.before)

room-4 : (c : tie.After-put_sort-m) → Room c.put_sort-m.new.buf c.put_sort-m.result (left 4 (texts c.before.before.before.before.before.before.before.before.before.before.before.before.before.before.before.before.before.before))
room-4 c = room-step c.put_sort-m.ensures (room-3 c.before.before.before.before)

room-5 : (c : tie.After-put-o) → Room c.put-o.new.buf c.put-o.result (left 5 (texts c.before.before.before.before.before.before.before.before.before.before.before.before.before.before.before.before.before.before.before.before.before.before.before.before))
room-5 c = room-step c.put-o.ensures (room-4 c.before.before.before.before.before.before)

room-6 : (c : tie.After-put_term-q) → Room c.put_term-q.new.buf c.put_term-q.result (left 6 (texts c.before.before.before.before.before.before.before.before.before.before.before.before.before.before.before.before.before.before.before.before.before.before.before.before.before.before.before.before))
room-6 c = room-step c.put_term-q.ensures (room-5 c.before.before.before.before)

-- ---- needs

kind-of-requires : tie.Need-kind_of-k-requires
kind-of-requires c κs = search rules

returns : tie.Need-returns-then-k-eq-VAR
returns c =
    let k = c in
    let s = c in
    wrote_as (no_line s.args.p.now s.args.n.0 (sym k.kind_of-k.ensures ∙ c.if-k-eq-VAR.true)) (wrote_none s.args.buf.now s.args.at)

width-of-requires : tie.Need-width_of-w-requires
width-of-requires c κs = search rules

put-requires : tie.Need-put-i-requires
put-requires c κs = room-front _ (room c.before.before.before)

put-node-name-requires : tie.Need-put_node_name-j-requires
put-node-name-requires c κs = room-front _ (room-1 c.before.before.before)

put-requires-2 : tie.Need-put-l-requires
put-requires-2 c κs = room-front _ (room-2 c.before.before.before.before.before)

put-sort-requires : tie.Need-put_sort-m-requires
put-sort-requires c κs = room-front _ (room-3 c.before.before.before)

put-requires-3 : tie.Need-put-o-requires
put-requires-3 c κs = room-front _ (room-4 c.before.before.before.before.before)

put-term-requires : tie.Need-put_term-q-requires
put-term-requires c κs =
    let s = c in
    ((s.requires.0, s.kind_of-k.ensures, other c.before.before.before.before.before.before.before.before.before.before.before.before.before.before.before.before.before.before.before.before.before.before.before.before.before.before.before), room-front _ (room-5 c.before.before.before))

put-requires-4 : tie.Need-put-requires
put-requires-4 c κs = room-6 c.before.before.before.before.before

same_length : tie.Need-shape_of-buf
same_length c = search rules

returns-2 : tie.Need-returns
returns-2 c =
    let w7 = c in
    let w6 = c in
    let w5 = c in
    let w4 = c in
    let w3 = c in
    let w2 = c in
    let w1 = c in
    let s = c in
    wrote_as (spelled c.before.before.before.before.before.before.before.before.before.before.before.before.before.before.before.before.before.before.before.before.before.before.before.before.before.before.before.before.before.before.before.before.before.before.before.before)
    (wrote_then w1.put-i.ensures (wrote_then w2.put_node_name-j.ensures (wrote_then w3.put-l.ensures (wrote_then w4.put_sort-m.ensures
    (wrote_then w5.put-o.ensures (wrote_then w6.put_term-q.ensures w7.put.ensures))))))

pub put_definition_spec : {M : Type 1} → statement M
put_definition_spec =
    tie.close
    (tie.spec
    kind-of-requires
    returns
    width-of-requires
    put-requires
    put-node-name-requires
    put-requires-2
    put-sort-requires
    put-requires-3
    put-term-requires
    put-requires-4
    same_length
    returns-2)
