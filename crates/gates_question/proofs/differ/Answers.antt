use Rattle.gates_question.proofs.Asks.{part-reads, differs}
use Rattle.gates_question.proofs.differ.Goals as goal

pub equal-same-requires : goal.equal-same-requires
equal-same-requires c =
    let a = c.args in
    let r = c.requires in
    (r.0, part-reads a.lo a.w r.1 r.2, part-reads a.lo a.w r.1 r.3)

pub returns : goal.returns
returns c = let a = c.args in differs a.bits.now a.a a.b a.lo a.w c.requires.1 c.negate.ensures c.equal-same.ensures
