-- `records_refusal` answers the first record that is refused.
use Rattle.block_check.proofs.Refusals.{passed-more, refused-here, all-passed}
use Rattle.block_check.proofs.records_refusal.Goals as goal

pub returns-in-Err : goal.returns-in-Err
returns-in-Err c =
    refused-here c.args.records.now _ _ c.loop-position.invariant c.loop-position-test.true (rw c.record_at.ensures at c.in-Err.ensures)

pub loop-position-preserved : goal.loop-position-preserved
loop-position-preserved c =
    passed-more c.args.records.now _ c.loop-position.invariant c.loop-position-test.true (rw c.record_at.ensures at c.in_default.ensures)

pub returns : goal.returns
returns c = all-passed c.args.records.now _ c.loop-position.invariant c.loop-position-test.false
