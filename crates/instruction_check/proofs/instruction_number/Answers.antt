-- `instruction_number` is the definition of its name: its tests in order.
use Rattle.std.proofs.Common.{sym, arith}
use Rattle.std.proofs.lemmas.Result.{err_from_is_err_and}
use Rattle.instruction_check.proofs.Refusing.{number-pool, number-form, sources-by, number-sources, number-room, number-done}
use Rattle.instruction_check.proofs.instruction_number.Goals as goal

pub returns-then-not-pool_check : goal.returns-then-not-pool_check
returns-then-not-pool_check c = number-pool _ _ _ _ _ _ _ _ (sym c.if-not-pool_check.ensures)

pub returns-in_err-form_number : goal.returns-in_err-form_number
returns-in_err-form_number c =
    let p = err_from_is_err_and c.from_residual.result c.from_residual.ensures.1 in
    rw (p.1, p.2) (number-form _ _ _ _ _ _ _ _ _ (sym c.if-not-pool_check.ensures) c.in_err-form_number.ensures)

pub returns-then-not-sources_ok : goal.returns-then-not-sources_ok
returns-then-not-sources_ok c =
    let good = sym c.if-not-pool_check.ensures in
    let legal = sym c.in_ok-form_number.ensures in
    number-sources _ _ _ _ _ _ _ _ good legal (sources-by _ _ _ _ _ _ _ _ good legal c.form_code-code.ensures c.is_full-full.ensures c.if-not-sources_ok.ensures)

pub returns-then-places-count-lt-RESERVE : goal.returns-then-places-count-lt-RESERVE
returns-then-places-count-lt-RESERVE c =
    let good = sym c.if-not-pool_check.ensures in
    let legal = sym c.in_ok-form_number.ensures in
    let wanted = sources-by _ _ _ _ _ _ _ _ good legal c.form_code-code.ensures c.is_full-full.ensures c.if-not-sources_ok.ensures in
    number-room _ _ _ _ _ _ _ _ good legal wanted (omega (arith, c.places.ensures, c.if-places-count-lt-RESERVE.true))

pub returns : goal.returns
returns c =
    let good = sym c.if-not-pool_check.ensures in
    let legal = sym c.in_ok-form_number.ensures in
    let wanted = sources-by _ _ _ _ _ _ _ _ good legal c.form_code-code.ensures c.is_full-full.ensures c.if-not-sources_ok.ensures in
    number-done _ _ _ _ _ _ _ _ good legal wanted (omega (arith, c.places.ensures, c.if-places-count-lt-RESERVE.false))
