-- `line_routine::read_lines` meets its contract: a bad line, a long routine, or all numbers.
use Prim.Native.Nat.{◌*◌, ◌≤◌}
use native.Mathlib.Omega.{arith}
use lib.ListN.{length}
use Rattle.line_routine.specs.Routine.{line_count}
use Rattle.line_routine.proofs.Answers.{numbers-length, bad-line, long-routine, no-refusal, all-good, refused, written}
use borrow.Author.Rules.{rules}
use Rattle.line_routine.proofs.read_lines.Statement.{statement}
use Rattle.line_routine.proofs.read_lines.Tie as tie

-- ---- places, and what is known there

-- no line is bad
good : (c : tie.Else-good-count) → line_count c.args.bytes.now ≤ c.good_lines-good.result
good c = omega (arith, c.line_count-count.ensures, c.if-good-count.false)

-- and there is room for their numbers
room : (c : tie.Else-records-count) → let a = c.args in 6 * line_count a.bytes.now ≤ length a.records.now
room c = omega (arith, c.line_count-count.ensures, c.if-records-count.false)

-- ---- needs

line-count-requires : tie.Need-line_count-count-requires
line-count-requires c κs = search rules

good-lines-requires : tie.Need-good_lines-good-requires
good-lines-requires c κs = search rules

returns : tie.Need-returns-then-good-count
returns c =
    let g = c in
    let a = g.args in
    let w = g.good_lines-good in
    refused a.bytes.now a.records.now 9 w.result
    (bad-line a.bytes.now (length a.records.now) w.result w.ensures (omega (arith, g.line_count-count.ensures, c.if-good-count.true)))

mul-if2 : tie.Need-overflow_mul-count
mul-if2 c = search rules

returns-2 : tie.Need-returns-then-records-count
returns-2 c =
    let o = c in
    let a = o.args in
    let w = o.good_lines-good in
    refused a.bytes.now a.records.now 7 0
    (long-routine a.bytes.now (length a.records.now) w.result w.ensures (good c.before) (omega (arith, o.line_count-count.ensures, c.if-records-count.true)))

put-numbers-requires : tie.Need-put_numbers-requires
put-numbers-requires c κs =
    let t = c in
    let bytes = t.args.bytes.now in
    let w = t.good_lines-good in
    (all-good bytes w.result w.ensures (good c.before.before), record { room = omega (arith, numbers-length bytes, room c.before) })

same_length : tie.Need-shape_of-records
same_length c = search rules

returns-3 : tie.Need-returns
returns-3 c =
    let p = c in
    let t = c in
    let g = c in
    let a = g.args in
    let d = g.good_lines-good in
    written a.bytes.now g.line_count-count.ensures
    (no-refusal a.bytes.now (length a.records.now) d.result d.ensures (good c.before.before.before.before.before) (room c.before.before.before.before))
    (omega (arith, numbers-length a.bytes.now, room c.before.before.before.before)) p.put_numbers.ensures

pub read_lines_spec : {M : Type 1} → statement M
read_lines_spec =
    tie.close
    (tie.spec
    line-count-requires
    good-lines-requires
    returns
    mul-if2
    returns-2
    put-numbers-requires
    same_length
    returns-3)
