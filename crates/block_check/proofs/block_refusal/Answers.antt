-- `block_refusal`: the size is that of all whole records; it refuses, or the records decide.
use Rattle.std.proofs.Common.{◌≡◌, ℕ, length, ◌/◌, sym, ap, subst, ◌∙◌, Result, Err}
use Rattle.facts.specs.declared.RefusedAt.{RefusedAt}
use Rattle.facts.specs.Answer.{number_of}
use Rattle.neon.specs.Refusal.{size_number, refusal_by, block_refusal}
use Rattle.pool.specs.Node.{places}
use Rattle.block_check.specs.Records.{records_of, Refuses}
use Rattle.block_check.proofs.Refusals.{from-length, by_size}
use Rattle.block_check.proofs.block_refusal.Goals as goal

pub returns-in-Ok : goal.returns-in-Ok
unfolding block_refusal
returns-in-Ok c =
    let flat = c.args.records.now in
    let size = places c.args.pool.now in
    let n : number_of c.size_number.result ≡ size_number size (length (records_of flat)) =
    c.size_number.ensures ∙ ap (size_number size) (sym (from-length flat 0 (length flat / 6))) in
    subst (λ (k : ℕ). Refuses c.records_refusal.result (refusal_by k (records_of flat))) (sym (ap (λ s. number_of s) c.in-Ok.is) ∙ n)
    c.records_refusal.ensures

pub returns-in-Err : goal.returns-in-Err
unfolding block_refusal
returns-in-Err c =
    let flat = c.args.records.now in
    let size = places c.args.pool.now in
    let n : number_of c.size_number.result ≡ size_number size (length (records_of flat)) =
    c.size_number.ensures ∙ ap (size_number size) (sym (from-length flat 0 (length flat / 6))) in
    let refused : Result (Unit {0}) RefusedAt = Err (record { refusal = c.in-Err.refusal; position = 0 }) in
    subst (λ (k : ℕ). Refuses refused (refusal_by k (records_of flat))) n (by_size _ _ c.in-Err.refusal (ap (λ s. number_of s) c.in-Err.is))
