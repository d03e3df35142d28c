-- `run_lines::run_text` meets its contract.
use mathlib.Core.Path.{refl}
use Rattle.run_lines.proofs.Runs.{too_long, start-refused, start-read}
use borrow.Author.Rules.{rules}
use Rattle.run_lines.proofs.run_text.Statement.{statement}
use Rattle.run_lines.proofs.run_text.Tie as tie

-- ---- places, from the start that is read: the input that fits, the entry

-- ---- needs

refused-requires : tie.Need-refused-requires
refused-requires c κs = search rules

returns : tie.Need-returns-then-input-gt-MOST_BYTES
returns c =
    let long = c in
    let a = long.args in
    too_long a.input.now a.out.now long.if-input-gt-MOST_BYTES.true c.refused.result c.refused.ensures

read-start-requires : tie.Need-read_start-s-requires
read-start-requires c κs = search rules

refused-requires-2 : tie.Need-refused-requires-then-s-gt0
refused-requires-2 c κs = search rules

returns-2 : tie.Need-returns-then-s-gt0
returns-2 c =
    let broken = c in
    let s = c in
    let a = s.args in
    start-refused a.input.now a.out.now s.if-input-gt-MOST_BYTES.false s.read_start-s.result s.read_start-s.ensures broken.if-s-gt0.true c.refused-then-s-gt0.result c.refused-then-s-gt0.ensures

sub-run-rest : tie.Need-slice_bounds-run_rest-count
sub-run-rest c = search rules

part-run-rest-start : tie.Need-slice_bounds-run_rest-start
part-run-rest-start c = search rules

part-run-rest-end : tie.Need-slice_bounds-run_rest-end
part-run-rest-end c = search rules

run-rest-requires : tie.Need-run_rest-requires
run-rest-requires c κs = search rules

returns-3 : tie.Need-returns
returns-3 c =
    let good = c in
    let s = c in
    let a = s.args in
    start-read a.input.now a.out.now s.if-input-gt-MOST_BYTES.false s.read_start-s.result s.read_start-s.ensures refl good.if-s-gt0.false
    c.run_rest.ensures

pub run_text_spec : {M : Type 1} → statement M
run_text_spec =
    tie.close
    (tie.spec
    refused-requires
    returns
    read-start-requires
    refused-requires-2
    returns-2
    sub-run-rest
    part-run-rest-start
    part-run-rest-end
    run-rest-requires
    returns-3)
