-- `answer_last`: what is held is answered; where nothing is held, nothing is put into the output.
use native.Mathlib.Omega.{arith}
use mathlib.Core.Path.{sym}
use lib.Seq.{length-take-le}
use borrow.Author.Rules.{rules}
use Rattle.pool.specs.Node.{places}
use Rattle.line_run.proofs.Running.{last_none, last_some}
use Rattle.line_run.proofs.answer_last.Statement.{statement}
use Rattle.line_run.proofs.answer_last.Tie as tie

returns : tie.Need-returns-then-line-eq0
returns c =
    let a = c.args in
    last_none (places a.pool.now) a.held.now a.out.now a.line (omega (arith, c.if-line-eq0.true))

slice-aggregate-answer-line : tie.Need-slice_bounds-answer_line-end
slice-aggregate-answer-line c =
    let st = c in
    sym (length-take-le st.args.line st.args.held.now st.requires.1)

answer-line-requires : tie.Need-answer_line-requires
answer-line-requires c κs = tt

same_length : tie.Need-shape_of-pool
same_length c = search rules

same-length-2 : tie.Need-shape_of-out
same-length-2 c = search rules

returns-2 : tie.Need-returns
returns-2 c =
    let l = c in
    let t = c in
    let st = c in
    let a = st.args in
    let w = l.answer_line.ensures in
    last_some (places a.pool.now) a.held.now a.line (omega (arith, t.if-line-eq0.false)) st.requires.1 st.requires.0.out_room w.0 (w.1.1 (omega arith))

pub answer_last_spec : {M : Type 1} → statement M
answer_last_spec =
    tie.close
    (tie.spec returns slice-aggregate-answer-line answer-line-requires same_length same-length-2 returns-2)
