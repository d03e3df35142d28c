-- `lines_length` meets its contract: each turn adds the lines of one node
use mathlib.Core.Path.{sym}
use native.Mathlib.Omega.{arith}
use Rattle.script_length.proofs.Sizes.{next-line, no_lines}
use Rattle.script_length.proofs.lines_length.Goals as goal

pub loop-n-init : goal.loop-n-init
loop-n-init c = (sym (no_lines _), omega arith)

pub loop-n-preserved : goal.loop-n-preserved
loop-n-preserved c =
    let l = c.loop-n in (
      omega (arith, l.invariant.0, c.line_length-sum.ensures.0, next-line c.args.p.now l.n),
      omega (arith, l.invariant.1, c.line_length-sum.ensures.1),
    )
