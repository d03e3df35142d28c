-- `refusal`: the size is that of all whole records; it refuses, or the records decide.
use Rattle.std.proofs.Common.{◌≡◌, ℕ, length, ◌/◌, sym, ap, subst, ◌∙◌, Result, Err}
use Rattle.facts.specs.declared.RefusedAt.{RefusedAt}
use Rattle.facts.specs.Answer.{number_of}
use Rattle.neon.specs.Refusal.{refusal_by}
use Rattle.pool.specs.Node.{places}
use Rattle.block_check.specs.Records.{records_of, Refuses}
use Rattle.block_check.proofs.Refusals.{from-length, by_size}
use Rattle.saturation_block.specs.Size.{flag_size, flag_refusal}
use Rattle.saturation_block.proofs.refusal.Goals as goal

pub returns-in-Ok : goal.returns-in-Ok
unfolding flag_refusal
returns-in-Ok c =
    let flat = c.args.records.now in
    let size = places c.args.pool.now in
    let n : number_of c.size_number.result ≡ flag_size size (length (records_of flat)) =
    c.size_number.ensures ∙ ap (flag_size size) (sym (from-length flat 0 (length flat / 6))) in
    subst (λ (k : ℕ). Refuses c.records_refusal.result (refusal_by k (records_of flat))) (sym (ap (λ s. number_of s) c.in-Ok.is) ∙ n)
    c.records_refusal.ensures

pub returns-in-Err : goal.returns-in-Err
unfolding flag_refusal
returns-in-Err c =
    let flat = c.args.records.now in
    let size = places c.args.pool.now in
    let n : number_of c.size_number.result ≡ flag_size size (length (records_of flat)) =
    c.size_number.ensures ∙ ap (flag_size size) (sym (from-length flat 0 (length flat / 6))) in
    let refused : Result (Unit {0}) RefusedAt = Err (record { refusal = c.in-Err.refusal; position = 0 }) in
    subst (λ (k : ℕ). Refuses refused (refusal_by k (records_of flat))) n (by_size _ _ c.in-Err.refusal (ap (λ s. number_of s) c.in-Err.is))
