use native.Mathlib.Omega.{arith}
use Rattle.block_check.proofs.Refusals.{legal-here}
use Rattle.run_block.proofs.Runs.{ran-start, ran-next, ran-all}
use Rattle.run_block.proofs.run_records.Goals as goal

pub loop-j-init : goal.loop-j-init
loop-j-init c = ran-start _ _

pub step-t-requires : goal.step-t-requires
step-t-requires c = rw c.record_at-c.ensures (legal-here c.args.records.now c.loop-j.j c.requires (omega arith))

pub loop-j-preserved : goal.loop-j-preserved
loop-j-preserved c =
    let flat = c.args.records.now in
    ran-next flat c.loop-j.j (legal-here flat c.loop-j.j c.requires (omega arith)) c.loop-j.invariant (rw c.record_at-c.ensures at c.step-t.ensures)

pub returns : goal.returns
returns c = ran-all c.args.records.now c.loop-j.j (omega arith) c.loop-j.invariant
