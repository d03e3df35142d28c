-- `result_of` makes `arm_result` and `saturates` (`ResultOf`): it runs the lanes of the shape on sources read as the form reads them.
use Rattle.facts.proofs.Tests.{and_both}
use Rattle.neon.specs.Op.{op_at, arrangement_at}
use Rattle.run_block.proofs.Rows.{row, asked, narrow-lt, result-is}
use Rattle.run_block.proofs.result_of.Goals as goal

pub run_lanes-x-requires : goal.run_lanes-x-requires
run_lanes-x-requires c =
    let l = c in
    let s = c in
    asked (op_at s.args.operation) (arrangement_at s.args.arrangement) s.args.i
    (row (op_at s.args.operation) (arrangement_at s.args.arrangement) s.args.i s.requires.row s.requires.low s.requires.high) s.requires.high _
    l.shape-s.ensures _ l.layout_of-y.ensures _ _ c.source_by.ensures c.skip_by.ensures

pub place-requires : goal.place-requires
place-requires c =
    let at-skip-by = c in
    let source = c in
    let m = c in
    let s = c in
    λ e. narrow-lt (op_at s.args.operation) (arrangement_at s.args.arrangement) s.args.i
    (row (op_at s.args.operation) (arrangement_at s.args.arrangement) s.args.i s.requires.row s.requires.low s.requires.high) s.requires.high _
    m.shape-s.ensures _ m.layout_of-y.ensures _ _ source.source_by.ensures at-skip-by.skip_by.ensures _ _ _ _
    c.run_lanes-x.ensures (and_both _ _ e).0

pub returns : goal.returns
returns c =
    let at-run-lanes = c in
    let at-skip-by = c in
    let at-source-by = c in
    let at-halve = c in
    let at-second-by = c in
    let at-halve2 = c in
    let at-first-by = c in
    let at-halve3 = c in
    let at-is-full = c in
    let s = c in
    result-is (op_at s.args.operation) (arrangement_at s.args.arrangement) s.args.i
    (row (op_at s.args.operation) (arrangement_at s.args.arrangement) s.args.i s.requires.row s.requires.low s.requires.high) s.requires.high _
    at-is-full.shape-s.ensures _ at-is-full.layout_of-y.ensures _ _ at-source-by.source_by.ensures at-skip-by.skip_by.ensures _
    at-is-full.is_full-whole.ensures _ _ at-first-by.first_by.ensures at-second-by.second_by.ensures _ _ _ _ _ _ at-halve3.halve-old.ensures
    at-halve2.halve-first.ensures at-halve.halve-second.ensures _ _ at-run-lanes.run_lanes-x.ensures c.place.ensures
