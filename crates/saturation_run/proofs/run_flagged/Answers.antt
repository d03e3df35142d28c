-- `run_flagged` meets its contract: each turn takes the next record, which is legal and has its reserve.
use Rattle.std.proofs.Common.{arith}
use Rattle.pool.specs.Growth.{Room}
use Rattle.block_check.specs.Records.{records_from}
use Rattle.block_check.proofs.Refusals.{from-length, legal-here}
use Rattle.saturation_step.specs.Step.{flag_reserve}
use Rattle.saturation_run.proofs.Running.{runs_none, runs-next, runs-all}
use Rattle.saturation_run.proofs.run_flagged.Goals as goal

pub loop-j-init : goal.loop-j-init
unfolding records_from
loop-j-init c = runs_none c.requires.map_ok c.requires.bit_lt_count

pub flag_record-at-requires : goal.flag_record-at-requires
flag_record-at-requires c =
    let l = c.loop-j in
    let room : Room l.pool l.at.map.count flag_reserve =
    omega (arith, c.requires.room, l.invariant.long, l.invariant.most, from-length c.args.records.now 0 l.j) in
    record {
      room = room;
      map_ok = l.invariant.map_ok;
      bit_lt_count = l.invariant.under;
      legal = rw c.record_at-c.ensures (legal-here c.args.records.now _ c.requires.all_legal (omega arith));
    }

pub loop-j-preserved : goal.loop-j-preserved
loop-j-preserved c =
    let l = c.loop-j in
    runs-next c.args.records.now l.j l.invariant (rw c.record_at-c.ensures at c.flag_record-at.ensures)

pub returns : goal.returns
returns c =
    let l = c.loop-j in
    runs-all c.args.records.now l.j (omega arith) l.invariant
