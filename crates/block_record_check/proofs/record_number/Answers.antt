-- `record_number` is the definition of its name: the tests on the form, then that of the registers.
use Rattle.std.proofs.Common.{true, false}
use Rattle.std.proofs.lemmas.Result.{err_from_is_err_and}
use Rattle.block_record_check.proofs.Refusals.{by_form, by-registers}
use Rattle.block_record_check.proofs.record_number.Goals as goal

pub returns-in_err-form_number : goal.returns-in_err-form_number
returns-in_err-form_number c =
    let p = err_from_is_err_and c.from_residual.result c.from_residual.ensures.1 in
    rw (p.1, p.2) (by_form c.args.c _ c.in_err-form_number.ensures)

pub returns-then-c-most : goal.returns-then-c-most
returns-then-c-most c =
    by-registers c.args.c true c.in_ok-form_number.ensures c.form_code-code.ensures c.lane_bits.ensures c.most_m-most.ensures c.if-c-most.true

pub returns : goal.returns
returns c =
    by-registers c.args.c false c.in_ok-form_number.ensures c.form_code-code.ensures c.lane_bits.ensures c.most_m-most.ensures c.if-c-most.false
