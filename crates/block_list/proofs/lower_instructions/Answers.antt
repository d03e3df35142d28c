-- `lower_instructions` answers a block of records: where none is refused, they run on the pool's first nodes.
use Rattle.block_list.proofs.Listed.{start-room, run_ok, all-accepted}
use Rattle.block_list.proofs.lower_instructions.Goals as goal

pub start_pool-requires : goal.start_pool-requires
start_pool-requires c = start-room c.args.pool.now c.args.records.now c.in_default.ensures

pub run_instructions-requires : goal.run_instructions-requires
run_instructions-requires c =
    let s = c.start_pool.ensures in
    let ok = run_ok c.args.pool.now c.args.records.now c.in_default.ensures s.0 s.1 in
    record { room = ok.0; map_ok = ok.1; all_legal = ok.2 }

pub returns : goal.returns
returns c =
    let s = c.start_pool.ensures in
    all-accepted c.args.pool.now c.args.records.now c.in_default.ensures s.0 s.1 c.run_instructions.ensures
