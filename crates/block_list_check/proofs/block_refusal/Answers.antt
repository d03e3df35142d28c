-- `block_refusal` answers the first refusal: of the block's size, else of the first refused record.
use Rattle.block_list_check.proofs.Listed.{none_passed, passed-more, refused-size, refused-here, all-passed}
use Rattle.block_list_check.proofs.block_refusal.Goals as goal

pub returns-in-Err : goal.returns-in-Err
returns-in-Err c = refused-size _ c.args.records.now _ c.in-Err.ensures

pub loop-position-init : goal.loop-position-init
loop-position-init c = none_passed _ c.args.records.now c.in_default.ensures

pub returns-in-Err-record_number : goal.returns-in-Err-record_number
returns-in-Err-record_number c =
    refused-here _ c.args.records.now _ _ c.loop-position.invariant c.loop-position-test.true c.in-Err-record_number.ensures

pub loop-position-preserved : goal.loop-position-preserved
loop-position-preserved c =
    passed-more _ c.args.records.now _ c.loop-position.invariant c.loop-position-test.true c.in_default-record_number.ensures

pub returns : goal.returns
returns c = all-passed _ c.args.records.now _ c.loop-position.invariant c.loop-position-test.false
