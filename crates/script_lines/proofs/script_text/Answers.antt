-- `script_text` meets its contract.
use Rattle.std.proofs.Common.{◌<◌, ◌*◌, refl, arith, length-take, Ok, Err}
use Rattle.facts.proofs.Answers.{code-positive}
use Rattle.block.specs.Block.{answer_of}
use Rattle.script_lines.proofs.Asks.{within, given-refused, no-registers, long-input, lines-refused, lines_fit, block_refused, pool_kept, given-asked}
use Rattle.script_lines.proofs.script_text.Goals as goal

pub returns-then-a-b : goal.returns-then-a-b
returns-then-a-b c =
    let a = c.args in
    given-refused a.input.now a.a a.b a.pool.now a.out.now 7 0 (omega arith)
    (no-registers a.input.now a.a a.b a.pool.now a.out.now c.if-a-b.true) c.refused.result c.refused.ensures refl

pub returns-then-input-gt-MOST_BYTES : goal.returns-then-input-gt-MOST_BYTES
returns-then-input-gt-MOST_BYTES c =
    let a = c.args in
    let w = within a.a a.b c.if-a-b.false in
    given-refused a.input.now a.a a.b a.pool.now a.out.now 8 0 (omega arith)
    (long-input a.input.now a.a a.b a.pool.now a.out.now w.0 w.1 c.if-input-gt-MOST_BYTES.true) c.refused-then-input-gt-MOST_BYTES.result c.refused-then-input-gt-MOST_BYTES.ensures refl

pub returns-then-read-gt0 : goal.returns-then-read-gt0
returns-then-read-gt0 c =
    let a = c.args in
    let r = c.read_lines-read in
    let w = within a.a a.b c.if-a-b.false in
    given-refused a.input.now a.a a.b a.pool.now a.out.now _ _ c.if-read-gt0.true
    (lines-refused a.input.now a.a a.b a.pool.now a.out.now w.0 w.1 c.if-input-gt-MOST_BYTES.false r.result refl r.ensures c.if-read-gt0.true)
    c.refused-then-read-gt0.result c.refused-then-read-gt0.ensures refl

pub overflow_mul-end : goal.overflow_mul-end
overflow_mul-end c =
    let a = c.args in
    let w = within a.a a.b c.if-a-b.false in
    omega (arith, lines_fit a.input.now a.a a.b a.pool.now a.out.now w.0 w.1 c.if-input-gt-MOST_BYTES.false c.read_lines-read.result refl c.read_lines-read.ensures c.if-read-gt0.false)

pub slice_bounds-records-end : goal.slice_bounds-records-end
slice_bounds-records-end c =
    let a = c.args in
    let w = within a.a a.b c.if-a-b.false in
    omega (arith, lines_fit a.input.now a.a a.b a.pool.now a.out.now w.0 w.1 c.if-input-gt-MOST_BYTES.false c.read_lines-read.result refl c.read_lines-read.ensures c.if-read-gt0.false)

pub slice_bounds-lower_block-end : goal.slice_bounds-lower_block-end
slice_bounds-lower_block-end c =
    let a = c.args in
    let r = c.read_lines-read in
    let w = within a.a a.b c.if-a-b.false in
    omega (
      arith,
      lines_fit a.input.now a.a a.b a.pool.now a.out.now w.0 w.1 c.if-input-gt-MOST_BYTES.false r.result refl r.ensures c.if-read-gt0.false,
      length-take (6 * r.result.count) r.new.records,
    )

pub returns-in-Err : goal.returns-in-Err
returns-in-Err c =
    let a = c.args in
    let r = c.read_lines-read in
    let s = c.if-input-gt-MOST_BYTES.false in
    let w = within a.a a.b c.if-a-b.false in
    let answer = answer_of (Err c.in-Err.found) in
    let some : 0 < answer.number = omega (arith, code-positive c.in-Err.found.refusal) in
    given-refused a.input.now a.a a.b a.pool.now a.out.now _ _ some
    (block_refused a.input.now a.a a.b a.pool.now a.out.now w.0 w.1 s r.result refl r.ensures c.if-read-gt0.false answer c.in-Err.ensures)
    c.refused-in-Err.result (rw c.from.ensures at c.refused-in-Err.ensures)
    (pool_kept a.input.now a.a a.b a.pool.now a.out.now w.0 w.1 s r.result refl r.ensures c.if-read-gt0.false answer c.in-Err.ensures some)

pub returns : goal.returns
returns c =
    let a = c.args in
    let r = c.read_lines-read in
    let w = within a.a a.b c.if-a-b.false in
    given-asked a.input.now a.a a.b a.pool.now a.out.now w.0 w.1 c.if-input-gt-MOST_BYTES.false r.result refl r.ensures c.if-read-gt0.false
    (answer_of (Ok c.in-Ok.map)) c.in-Ok.ensures (omega arith) c.get-x.ensures c.get-y.ensures c.write_script.ensures
    c.written.result c.written.ensures
