-- `answer_line`, by the way that a line takes: no room, not in columns, refused, accepted. Assumes nothing.
use Rattle.std.proofs.Common.{◌≡◌, ℕ, List, get_or, refl, sym, ap, ◌∙◌, arith}
use Rattle.facts.proofs.Answers.{code-positive}
use Rattle.pool.specs.Node.{places}
use Rattle.block_map.specs.Map.{node_of}
use Rattle.line_fields.specs.Fields.{fields, record_of}
use Rattle.line.proofs.Fits.{inside}
use Rattle.line.proofs.Records.{answered-one, long, low-d, node-under, registers, left-little, left_other, lowered-one, no_room, little-room, other, refused, done}
use Rattle.line.proofs.answer_line.Goals as goal

pub returns-then-out-at : goal.returns-then-out-at
returns-then-out-at c =
    let a = c.args in
    let w = no_room a.pool.now a.line.now a.out.now a.at c.if-out-at.true in
    record { wrote = w; pool_after = left-little a.pool.now a.line.now a.out.now a.at (omega (arith, c.if-out-at.true)); upper_bound = inside (places a.pool.now) a.line.now w }

pub returns-then-out-at-lt-ANSWER_ROOM : goal.returns-then-out-at-lt-ANSWER_ROOM
returns-then-out-at-lt-ANSWER_ROOM c =
    let a = c.args in
    let w = little-room a.pool.now a.line.now a.out.now a.at c.if-out-at-lt-ANSWER_ROOM.true in
    record { wrote = w; pool_after = left-little a.pool.now a.line.now a.out.now a.at c.if-out-at-lt-ANSWER_ROOM.true; upper_bound = inside (places a.pool.now) a.line.now w }

pub returns-then-not-in_columns : goal.returns-then-not-in_columns
returns-then-not-in_columns c =
    let a = c.args in
    let q = c.if-out-at-lt-ANSWER_ROOM.false in
    let bad = sym c.if-not-in_columns.ensures in
    let w = other a.pool.now a.line.now a.out.now a.at q bad c.put_refusal.ensures in
    record { wrote = w; pool_after = left_other a.pool.now a.line.now a.out.now a.at q bad; upper_bound = inside (places a.pool.now) a.line.now w }

pub fields_of-numbers-requires : goal.fields_of-numbers-requires
fields_of-numbers-requires c = omega (arith, long 0 c.args.line.now (sym c.if-not-in_columns.ensures))

-- the fourth of the line's numbers is d
d_is : {flat : List ℕ} (line : List ℕ) → flat ≡ fields line → get_or flat 3 0 ≡ (record_of line).d
d_is line e = ap (λ (z : List ℕ). get_or z 3 0) e

pub get-node-requires : goal.get-node-requires
get-node-requires c =
    let line = c.args.line.now in
    let one = answered-one line c.fields_of-numbers.ensures c.in-Ok.ensures in
    omega (arith, low-d line one refl, d_is line c.fields_of-numbers.ensures)

pub put_term-requires-clause-node_lt_count : goal.put_term-requires-clause-node_lt_count
put_term-requires-clause-node_lt_count c =
    let line = c.args.line.now in
    let one = answered-one line c.fields_of-numbers.ensures c.in-Ok.ensures in
    let node-is : c.get-node.result.0 ≡ node_of c.in-Ok.map (record_of line).d = c.get-node.ensures ∙ ap (node_of c.in-Ok.map) (d_is line c.fields_of-numbers.ensures) in
    (omega (arith, node-is, node-under line one refl), registers line one refl)

pub returns-in-Ok : goal.returns-in-Ok
returns-in-Ok c =
    let a = c.args in
    let line = a.line.now in
    let q = c.if-out-at-lt-ANSWER_ROOM.false in
    let good = sym c.if-not-in_columns.ensures in
    let one = answered-one line c.fields_of-numbers.ensures c.in-Ok.ensures in
    let node-is : c.get-node.result.0 ≡ node_of c.in-Ok.map (record_of line).d = c.get-node.ensures ∙ ap (node_of c.in-Ok.map) (d_is line c.fields_of-numbers.ensures) in
    let w = done a.pool.now line a.out.now a.at _ q good one refl node-is c.put_term.ensures in
    record { wrote = w; pool_after = lowered-one a.pool.now line a.out.now a.at q good one; upper_bound = inside (places a.pool.now) line w }

pub returns-in-Err : goal.returns-in-Err
returns-in-Err c =
    let a = c.args in
    let line = a.line.now in
    let q = c.if-out-at-lt-ANSWER_ROOM.false in
    let good = sym c.if-not-in_columns.ensures in
    let one = answered-one line c.fields_of-numbers.ensures c.in-Err.ensures in
    let w = refused a.pool.now line a.out.now a.at q good one (omega (arith, code-positive c.in-Err.refused.refusal)) (rw c.from.ensures at c.put_refusal-in-Err.ensures) in
    record { wrote = w; pool_after = lowered-one a.pool.now line a.out.now a.at q good one; upper_bound = inside (places a.pool.now) line w }
