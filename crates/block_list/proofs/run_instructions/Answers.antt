-- `run_instructions`: each turn takes the next record, which is legal.
use Rattle.std.proofs.Common.{arith}
use Rattle.block_list.proofs.Listed.{ran-none, ran-more, ran-ok}
use Rattle.block_list.proofs.run_instructions.Goals as goal

pub loop-r-init : goal.loop-r-init
loop-r-init c = ran-none c.args.pool.now c.args.map.now c.args.records.now c.requires.map_ok

pub lower_record_in-requires-clause-legal : goal.lower_record_in-requires-clause-legal
lower_record_in-requires-clause-legal c =
    (ran-ok _ _ c.args.records.now _ c.requires.room c.requires.all_legal (omega arith) c.loop-r.invariant).2

pub loop-r-preserved : goal.loop-r-preserved
loop-r-preserved c =
    ran-more _ _ c.args.records.now _ (omega arith) c.loop-r.invariant c.lower_record_in.ensures
