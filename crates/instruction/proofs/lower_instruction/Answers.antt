-- `lower_instruction` gives its answer: a refusal that leaves the pool, or the lowering of a legal form.
use Rattle.std.proofs.Common.{refl, sym}
use Rattle.std.proofs.lemmas.Result.{err_from_is_err_and}
use Rattle.facts.proofs.Answers.{code-positive}
use Rattle.instruction.proofs.Answering.{asked, lowered}
use Rattle.instruction.proofs.lower_instruction.Goals as goal

pub returns-in_err-instruction_number : goal.returns-in_err-instruction_number
returns-in_err-instruction_number c =
    let p = err_from_is_err_and c.from_residual.result c.from_residual.ensures.1 in
    rw (p.1, p.2) (record {
      number = c.in_err-instruction_number.ensures;
      done = λ e. absurd (code-positive _ e);
      refused = λ f. record { no_node = refl; same_count = refl; same_words = refl };
    })

pub lower_form-built-requires : goal.lower_form-built-requires
lower_form-built-requires c =
    let a = c.args in
    let q = asked a.pool.now a.count a.operation a.arrangement a.i (record { 0 = a.d }) (record { 0 = a.n }) (record { 0 = a.m }) (sym c.in_ok-instruction_number.ensures) in
    record { room = q.0; i_value = q.1.0; first_lt_count = q.1.1 }

pub returns : goal.returns
returns c =
    let a = c.args in
    lowered a.pool.now a.count a.operation a.arrangement a.i (record { 0 = a.d }) (record { 0 = a.n }) (record { 0 = a.m })
    (sym c.in_ok-instruction_number.ensures) c.lower_form-built.ensures
