-- `run_lines::run_rest` meets its contract.
use mathlib.Core.Path.{refl}
use native.Mathlib.Omega.{arith}
use Rattle.run_lines.proofs.Runs.{lines_fit, lines-refused, block_refused, block-ran}
use Prim.Native.Nat.{◌*◌, ◌≤◌}
use lib.ListN.{length-take}
use borrow.Author.Rules.{rules}
use Rattle.run_lines.proofs.run_rest.Statement.{statement}
use Rattle.run_lines.proofs.run_rest.Tie as tie

-- ---- places: the lines are read, the block is run

-- the records of the lines fit into their array
fit : (c : tie.Else-read-gt0) → 6 * c.read_lines-read.result.count ≤ 510
fit c =
    let l = c in
    lines_fit l.args.rest.now l.read_lines-read.result refl l.read_lines-read.ensures c.if-read-gt0.false

-- ---- needs

slice-aggregate-read-lines : tie.Need-slice_bounds-read_lines-end
slice-aggregate-read-lines c = search rules

read-lines-requires : tie.Need-read_lines-read-requires
read-lines-requires c κs = search rules

refused-requires : tie.Need-refused-requires
refused-requires c κs = search rules

returns : tie.Need-returns-then-read-gt0
returns c =
    let t = c in
    let l = c in
    let a = l.args in
    lines-refused a.rest.now l.read_lines-read.result refl l.read_lines-read.ensures a.start.words a.out.now t.if-read-gt0.true c.refused.result c.refused.ensures

mul-end : tie.Need-overflow_mul-end
mul-end c = omega (arith, fit c.before)

array-share-prefix-records : tie.Need-slice_bounds-records-end
array-share-prefix-records c = omega (arith, fit c.before)

slice-aggregate-run : tie.Need-slice_bounds-run-end
slice-aggregate-run c =
    let e = c in
    omega (arith, fit c.before.before, length-take (6 * e.read_lines-read.result.count) e.read_lines-read.new.records)

run-requires : tie.Need-run-ran-requires
run-requires c κs = search rules

refused-requires-2 : tie.Need-refused-requires-then-ran-gt0
refused-requires-2 c κs = search rules

returns-2 : tie.Need-returns-then-ran-gt0
returns-2 c =
    let u = c in
    let n = c in
    let r = n.read_lines-read in
    let s = n.args in
    block_refused s.rest.now r.result refl r.ensures s.start.words s.out.now n.if-read-gt0.false n.run-ran.ensures.0 u.if-ran-gt0.true
    c.refused-then-ran-gt0.result c.refused-then-ran-gt0.ensures

put-after-requires : tie.Need-put_after-length-requires
put-after-requires c κs = search rules

returns-3 : tie.Need-returns
returns-3 c =
    let v = c in
    let m = c in
    let r = m.read_lines-read in
    let s = m.args in
    block-ran s.rest.now r.result refl r.ensures s.start.words s.out.now m.if-read-gt0.false m.run-ran.ensures.0 m.run-ran.result.saturated v.if-ran-gt0.false
    m.run-ran.ensures.1 c.put_after-length.ensures.0 c.put_after-length.ensures.1

pub run_rest_spec : {M : Type 1} → statement M
run_rest_spec =
    tie.close
    (tie.spec
    slice-aggregate-read-lines
    read-lines-requires
    refused-requires
    returns
    mul-end
    array-share-prefix-records
    slice-aggregate-run
    run-requires
    refused-requires-2
    returns-2
    put-after-requires
    returns-3)
