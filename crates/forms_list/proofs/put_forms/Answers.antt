-- `put_forms` meets its contract: after each turn the lines of the operations so far are written.
use Rattle.std.proofs.Common.{arith, subst, ap, ◌≡◌, ℕ, ◌+◌, ◌-◌}
use Rattle.text_digits.specs.Writing.{Wrote}
use Rattle.text_digits.proofs.Laws.{room_as, wrote_as}
use Rattle.text_series.specs.Series.{up_to}
use Rattle.text_series.proofs.Places.{rows_eq}
use Rattle.text_series.proofs.Texts.{wrote-row, wrote-first}
use Rattle.forms_list.specs.Texts.{operation_text, forms_text}
use Rattle.forms_list.proofs.Rows.{room-row}
use Rattle.forms_list.proofs.put_forms.Goals as goal

texts : forms_text ≡ up_to 67 (λ o. operation_text (1 + o))
unfolding forms_text
texts = rows_eq 67 _ _ (λ o h. ap operation_text (omega arith))

pub loop-operation-init : goal.loop-operation-init
loop-operation-init c = wrote-first (λ o. operation_text (1 + o)) c.args.buf.now c.args.at

pub put_operation-end-requires-clause-room : goal.put_operation-end-requires-clause-room
put_operation-end-requires-clause-room c =
    let l = c.loop-operation in
    room-row operation_text 1 67 l.operation (omega arith) (omega arith) (room_as texts c.requires) l.invariant

pub loop-operation-preserved : goal.loop-operation-preserved
loop-operation-preserved c =
    let l = c.loop-operation in
    wrote-row operation_text 1 l.operation (omega arith) l.invariant c.put_operation-end.ensures

pub returns : goal.returns
returns c =
    let a = c.args in
    let l = c.loop-operation in
    let all : l.operation - 1 ≡ 67 = omega arith in
    wrote_as texts (subst (λ (j : ℕ). Wrote a.buf.now a.at (up_to j (λ o. operation_text (1 + o))) l.end l.buf) all l.invariant)
