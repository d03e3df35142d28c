-- `nodes` makes a node a turn.
use Rattle.gates_pool.proofs.Pools.{nodes-none, node-ready, nodes-more}
use Rattle.gates_pool.proofs.nodes.Goals as goal

pub loop-n-init : goal.loop-n-init
loop-n-init c = nodes-none _ _ _ _

pub node-all-requires : goal.node-all-requires
node-all-requires c =
    let p = c.requires.valid in
    node-ready c.loop-n.invariant c.args.count c.loop-n-test.true p.0 p.1 p.2 c.requires.count_in_bounds

pub loop-n-preserved : goal.loop-n-preserved
loop-n-preserved c = nodes-more c.loop-n.invariant c.node-all.ensures
