use Rattle.std.proofs.Common.{refl, sym, arith}
use Rattle.gates_question.proofs.Refusals.{all-passed}
use Rattle.gates_question.proofs.Asks.{ready, first_reads, second_reads, room, few, asks, graph_size}
use Rattle.gates_question.proofs.question.Goals as goal

pub both-made-requires : goal.both-made-requires
both-made-requires c = let a = c.args in ready (all-passed a.first.now a.n a.second.now a.m _ _ _ _ _ _ (sym c.in_ok-refusal.ensures))

pub overflow_add-there : goal.overflow_add-there
overflow_add-there c =
    let a = c.args in
    let p = all-passed a.first.now a.n a.second.now a.m _ _ _ _ _ _ (sym c.in_ok-refusal.ensures) in
    omega (arith, p.places, p.b-less)

pub overflow_mul-there : goal.overflow_mul-there
overflow_mul-there c =
    let a = c.args in
    let p = all-passed a.first.now a.n a.second.now a.m _ _ _ _ _ _ (sym c.in_ok-refusal.ensures) in
    omega (arith, p.places, p.b-less)

pub overflow_mul-here : goal.overflow_mul-here
overflow_mul-here c =
    let a = c.args in
    let p = all-passed a.first.now a.n a.second.now a.m _ _ _ _ _ _ (sym c.in_ok-refusal.ensures) in
    omega (arith, p.places, p.a-less)

pub overflow_sub-hi : goal.overflow_sub-hi
overflow_sub-hi c =
    let a = c.args in
    (all-passed a.first.now a.n a.second.now a.m _ _ _ _ _ _ (sym c.in_ok-refusal.ensures)).ordered

pub overflow_add-hi : goal.overflow_add-hi
overflow_add-hi c =
    let a = c.args in
    let p = all-passed a.first.now a.n a.second.now a.m _ _ _ _ _ _ (sym c.in_ok-refusal.ensures) in
    omega (arith, p.inside-128)

pub differ-requires : goal.differ-requires
differ-requires c =
    let a = c.args in
    let p = all-passed a.first.now a.n a.second.now a.m _ _ _ _ _ _ (sym c.in_ok-refusal.ensures) in
    let d = c.both-made.ensures in
    (room p d, omega (arith, p.ordered, p.inside-128), first_reads p d, second_reads p d)

pub returns : goal.returns
returns c =
    let a = c.args in
    let p = all-passed a.first.now a.n a.second.now a.m _ _ _ _ _ _ (sym c.in_ok-refusal.ensures) in
    let d = c.both-made.ensures in
    let made = c.differ.ensures in
    record {
      number_is = c.in_ok-refusal.ensures;
      refused = λ h. absurd (h refl);
      done = λ z. asks p d made;
      few = few p d made;
      graph_size = graph_size p d made;
    }
