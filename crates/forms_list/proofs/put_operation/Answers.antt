-- `put_operation` meets its contract: after each turn the lines of the arrangements so far are written.
use Rattle.std.proofs.Common.{arith, subst, ◌≡◌, ℕ}
use Rattle.text_digits.specs.Writing.{Wrote}
use Rattle.text_series.specs.Series.{up_to}
use Rattle.text_series.proofs.Texts.{room_next, wrote-next, wrote-first}
use Rattle.forms_list.specs.Texts.{arrangement_text, operation_text}
use Rattle.forms_list.proofs.put_operation.Goals as goal

pub loop-arrangement-init : goal.loop-arrangement-init
loop-arrangement-init c = wrote-first (λ a. arrangement_text c.args.operation a) c.args.buf.now c.args.at

pub put_arrangement-end-requires-clause-room : goal.put_arrangement-end-requires-clause-room
unfolding operation_text
put_arrangement-end-requires-clause-room c =
    let l = c.loop-arrangement in
    room_next (λ a. arrangement_text c.args.operation a) 7 l.arrangement c.loop-arrangement-test.true c.requires.room l.invariant

pub loop-arrangement-preserved : goal.loop-arrangement-preserved
loop-arrangement-preserved c =
    let l = c.loop-arrangement in
    wrote-next (λ a. arrangement_text c.args.operation a) l.arrangement l.invariant c.put_arrangement-end.ensures

pub returns : goal.returns
unfolding operation_text
returns c =
    let a = c.args in
    let l = c.loop-arrangement in
    let all : l.arrangement ≡ 7 = omega arith in
    subst (λ (j : ℕ). Wrote a.buf.now a.at (up_to j (λ v. arrangement_text a.operation v)) l.end l.buf) all l.invariant
