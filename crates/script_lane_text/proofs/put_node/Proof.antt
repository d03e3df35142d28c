-- `put_node` writes both lines of a node, and nothing for a Var. Assumes nothing.
use Rattle.text_digits.proofs.Laws.{room-front, room-step, room_as, wrote_none, wrote_then, wrote_as}
use mathlib.Core.Path.{◌≡◌, sym, ◌∙◌}
use mathlib.Core.List.{◌++◌}
use Rattle.script_text.proofs.Nodes.{kind-above}
use Rattle.script_text.proofs.Spelling.{above}
use Rattle.script_lane_text.specs.Lines.{constant_line, equation_line, lines_at}
use Rattle.script_lane_text.proofs.Spelling.{no_lines, lines-with}
use borrow.Author.Rules.{rules}
use Rattle.script_lane_text.proofs.put_node.Statement.{statement}
use Rattle.script_lane_text.proofs.put_node.Tie as tie

-- ---- places: the entry, where the kind is read, and where the width is read of a node that is no Var

-- its two lines
lines : (c : tie.After-width_of-w) → let a = c.args in
    lines_at a.p.now a.n.0 ≡ constant_line a.n.0 c.width_of-w.result ++ equation_line a.p.now a.n.0
lines c =
    let k = c in
    let a = k.args in
    let w = c.width_of-w in
    lines-with a.p.now a.n.0 k.kind_of-k.result w.result k.kind_of-k.ensures c.if-k-eq-VAR.false w.ensures.0

-- ---- needs

kind-of-requires : tie.Need-kind_of-k-requires
kind-of-requires c κs = search rules

returns : tie.Need-returns-then-k-eq-VAR
returns c =
    let k = c in
    let a = k.args in
    wrote_as (no_lines a.p.now a.n.0 (sym k.kind_of-k.ensures ∙ c.if-k-eq-VAR.true)) (wrote_none a.buf.now a.at)

width-of-requires : tie.Need-width_of-w-requires
width-of-requires c κs = search rules

put-declared-requires : tie.Need-put_declared-i-requires
put-declared-requires c κs =
    let w = c in
    room-front _ (room_as (lines c.before) w.requires.1)

put-equation-requires : tie.Need-put_equation-requires
put-equation-requires c κs =
    let d = c in
    let w = c in
    let s = c in
    let ready = s.requires.0 in
    let k = w.kind_of-k in (
      (ready, k.ensures, above k.result 1 (kind-above s.args.p.now s.args.n.0 ready k.result k.ensures) w.if-k-eq-VAR.false),
      room-step d.put_declared-i.ensures (room_as (lines c.before.before.before.before.before) s.requires.1),
    )

same_length : tie.Need-shape_of-buf
same_length c = search rules

returns-2 : tie.Need-returns
returns-2 c =
    let e = c in
    let d = c in
    wrote_as (lines c.before.before.before.before.before.before.before.before) (wrote_then d.put_declared-i.ensures e.put_equation.ensures)

pub put_node_spec : {M : Type 1} → statement M
put_node_spec = tie.close (tie.spec kind-of-requires returns width-of-requires put-declared-requires put-equation-requires same_length returns-2)
