-- `nodes_length` meets its contract: each turn adds the lines of one node
use mathlib.Core.Path.{sym}
use native.Mathlib.Omega.{arith}
use Rattle.script_lane_length.proofs.Sizes.{next-lines, no_lines}
use Rattle.script_lane_length.proofs.nodes_length.Goals as goal

pub loop-n-init : goal.loop-n-init
loop-n-init c = (sym (no_lines _), omega arith)

pub loop-n-preserved : goal.loop-n-preserved
loop-n-preserved c =
    let l = c.loop-n in (
      omega (arith, l.invariant.0, c.node_length-sum.ensures.0, next-lines c.args.p.now l.n),
      omega (arith, l.invariant.1, c.node_length-sum.ensures.1),
    )
