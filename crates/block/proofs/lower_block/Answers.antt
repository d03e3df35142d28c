-- `lower_block` meets its contract: a refusal leaves the pool, and an accepted block is the registers and then its records.
use Rattle.std.proofs.Common.{◌≡◌, refl, ap, arith}
use Rattle.std.proofs.lemmas.Result.{err_from_is_err_and}
use Rattle.facts.proofs.Answers.{code-positive}
use Rattle.block_map.specs.declared.RegisterMap.{RegisterMap}
use Rattle.block.proofs.Running.{Fits, fits, first-ok, runs-first, all_done}
use Rattle.block.proofs.lower_block.Goals as goal

pub returns-in_err-block_refusal : goal.returns-in_err-block_refusal
returns-in_err-block_refusal c =
    let p = err_from_is_err_and c.from_residual.result c.from_residual.ensures.1 in
    let r = c.in_err-block_refusal.ensures in
    rw (p.1, p.2) (record { number = r.0; position = r.1; refused = λ h. (refl, refl); accepted = λ z. absurd (code-positive _ z) })

pub start_pool-start-requires : goal.start_pool-start-requires
start_pool-start-requires c = omega (arith, (fits c.args.pool.now c.args.records.now c.in_ok-block_refusal.ensures.0 (omega arith)).room)

pub run_records-requires : goal.run_records-requires
run_records-requires c =
    let f = fits c.args.pool.now c.args.records.now c.in_ok-block_refusal.ensures.0 (omega arith) in
    let s = c.start_pool-start.ensures in
    let e : c.start_pool-start.result.count ≡ 32 = ap (λ (m : RegisterMap). m.count) s.1 in
    record { room = omega (arith, f.room, e, s.0.grown.long); map_ok = rw s.1 first-ok; all_legal = f.legal }

pub returns : goal.returns
returns c =
    let f = fits c.args.pool.now c.args.records.now c.in_ok-block_refusal.ensures.0 (omega arith) in
    record {
      number = c.in_ok-block_refusal.ensures.0;
      position = c.in_ok-block_refusal.ensures.1;
      refused = λ h. absurd (h refl);
      accepted = λ z. all_done f.placed c.start_pool-start.ensures.0 (runs-first c.start_pool-start.ensures.1 c.run_records.ensures);
    }
