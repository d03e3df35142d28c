-- `RegisterMap::initial` meets its contract: entry i is the node that the call at i made.
use Rattle.std.proofs.Common.{ap, List, rules}
use Rattle.pool.specs.declared.Node.{Node}
use Rattle.block_map.specs.declared.RegisterMap.{RegisterMap}
use Rattle.block_map.proofs.Nodes.{is-first}
use Rattle.block_map.proofs.RegisterMap.initial.Goals as goal

record_of : List Node → RegisterMap
record_of l = record { nodes = l; count = 32 }

pub returns : goal.returns
unfolding record_of
returns c =
    let made = c.from_fn.ensures.items in
    ap record_of (is-first c.from_fn.result made.long (λ i h. search rules))
