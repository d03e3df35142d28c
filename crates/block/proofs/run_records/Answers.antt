-- `run_records` meets its contract: each turn takes the next record, which is legal and has its reserve.
use Rattle.std.proofs.Common.{arith}
use Rattle.neon.specs.Refusal.{reserve}
use Rattle.pool.specs.Growth.{Room}
use Rattle.block_check.specs.Records.{records_from}
use Rattle.block_check.proofs.Refusals.{from-length, legal-here}
use Rattle.block.proofs.Running.{runs_none, runs-next, runs-all}
use Rattle.block.proofs.run_records.Goals as goal

pub loop-j-init : goal.loop-j-init
unfolding records_from
loop-j-init c = runs_none c.requires.map_ok

pub lower_record-map-requires : goal.lower_record-map-requires
lower_record-map-requires c =
    let l = c.loop-j in
    let room : Room l.pool l.map.count reserve =
    omega (arith, c.requires.room, l.invariant.long, l.invariant.most, from-length c.args.records.now 0 l.j) in
    record {
      room = room;
      map_ok = l.invariant.map_ok;
      legal = rw c.record_at-c.ensures (legal-here c.args.records.now _ c.requires.all_legal (omega arith));
    }

pub loop-j-preserved : goal.loop-j-preserved
loop-j-preserved c =
    let l = c.loop-j in
    runs-next c.args.records.now l.j l.invariant (rw c.record_at-c.ensures at c.lower_record-map.ensures)

pub returns : goal.returns
returns c =
    let l = c.loop-j in
    runs-all c.args.records.now l.j (omega arith) l.invariant
