-- `run` meets both its contracts: 8 first, then the first bad record, else the Arm run and whether a lane saturated.
use Rattle.std.proofs.Common.{sym, arith}
use Rattle.facts.proofs.Answers.{code-positive}
use Rattle.block_check.specs.Records.{records_of}
use Rattle.block_check.proofs.Refusals.{all-legal}
use Rattle.run_block.proofs.Runs.{too_many, refused, answered}
use Rattle.run_block.proofs.run.Goals as goal

pub returns-then-records-gt-MOST_RECORDS : goal.returns-then-records-gt-MOST_RECORDS
returns-then-records-gt-MOST_RECORDS c =
    let p = too_many c.args.records.now c.args.start.words c.if-records-gt-MOST_RECORDS.true in
    record { run_answered = p.0; flag_answered = p.1 }

pub returns-in-Err : goal.returns-in-Err
returns-in-Err c =
    let r = c.in-Err.ensures in
    let p = refused c.args.records.now c.args.start.words c.if-records-gt-MOST_RECORDS.false r.0 r.1 (omega (arith, code-positive c.in-Err.refused.refusal)) in
    rw c.from.ensures (record { run_answered = p.0; flag_answered = p.1 })

pub run_records-t-requires : goal.run_records-t-requires
run_records-t-requires c = all-legal 0 (records_of c.args.records.now) (sym c.in_default.ensures.0)

pub returns : goal.returns
returns c =
    let r = c.in_default.ensures in
    let p = answered c.args.records.now c.args.start.words c.if-records-gt-MOST_RECORDS.false r.0 r.1 (omega arith) c.run_records-t.ensures in
    record { run_answered = p.0; flag_answered = p.1 }
