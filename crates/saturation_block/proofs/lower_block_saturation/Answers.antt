-- `lower_block_saturation`: an accepted block's run from the start leaves all that is promised.
use Rattle.std.proofs.Common.{refl, arith}
use Rattle.std.proofs.lemmas.Result.{err_from_is_err_and}
use Rattle.facts.proofs.Answers.{code-positive}
use Rattle.saturation_block.proofs.Done.{fits, started-ok, all_done}
use Rattle.saturation_block.proofs.lower_block_saturation.Goals as goal

pub returns-in_err-refusal : goal.returns-in_err-refusal
returns-in_err-refusal c =
    let p = err_from_is_err_and c.from_residual.result c.from_residual.ensures.1 in
    let r = c.in_err-refusal.ensures in
    rw (p.1, p.2) (record { number = r.0; position = r.1; refused = λ h. (refl, refl, refl); accepted = λ z. absurd (code-positive _ z) })

pub start_flagged-start-requires : goal.start_flagged-start-requires
start_flagged-start-requires c =
    omega (arith, (fits c.args.pool.now c.args.records.now c.in_ok-refusal.ensures.0 (omega arith)).room)

pub run_flagged-end-requires : goal.run_flagged-end-requires
run_flagged-end-requires c =
    let s = c.start_flagged-start.ensures in
    let f = fits c.args.pool.now c.args.records.now c.in_ok-refusal.ensures.0 (omega arith) in
    let o = started-ok s in
    record { room = omega (arith, f.room, o.2, s.grown.long); map_ok = o.0; bit_lt_count = o.1; all_legal = f.legal }

pub returns : goal.returns
returns c =
    let f = fits c.args.pool.now c.args.records.now c.in_ok-refusal.ensures.0 (omega arith) in
    record {
      number = c.in_ok-refusal.ensures.0;
      position = c.in_ok-refusal.ensures.1;
      refused = λ h. absurd (h refl);
      accepted = λ z. all_done f.placed c.start_flagged-start.ensures c.run_flagged-end.ensures;
    }
