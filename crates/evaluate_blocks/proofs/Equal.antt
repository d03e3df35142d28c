-- The theorem of specs/Demand.antt. Assumes nothing.
use mathlib.Core.Path.{◌≡◌, sym, ◌∙◌}
use borrow.Author.Tests.{lt-ltb, le-leb}
use Rattle.block_map.specs.Map.{node_of}
use Rattle.wide.specs.Registers.{registers_of}
use Rattle.block.proofs.Equal.{registers-hold}
use Rattle.evaluate.specs.Visits.{value_at, visits_at}
use Rattle.evaluate.specs.Answer.{evaluate_number}
use Rattle.evaluate_blocks.specs.Demand.{EvaluatedIsRun}

pub evaluated-is-run : EvaluatedIsRun
unfolding value_at
evaluated-is-run old cs new a h z start r allowance l enough e p =
    let accepted = h.accepted z in
    let n = node_of a.map r in
    let done : evaluate_number new start a.map.count n allowance ≡ 0 =
    rw (accepted.checked, lt-ltb n a.map.count (accepted.terms r l).under, le-leb (visits_at new start n) allowance enough) in
    (p.number_is ∙ done, (rw done at p.value_is) ∙ sym (registers-hold old cs new a h z (registers_of start) r l))
