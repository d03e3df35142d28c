use Prim.Native.Nat.{ℕ, ◌+◌, ◌*◌, ◌/◌, ◌%◌, ◌^◌, ◌≤◌}
use mathlib.Core.Path.{◌≡◌, sym, ap, ◌∙◌, subst}
use native.Mathlib.Omega.{arith}
use Rattle.neon.specs.Arm.{lane}
use Rattle.run_block.specs.Lanes.{number}
use Rattle.run_block.proofs.Running.{none_yet, one_more, two-words, in-word, at_most, all_in, le-times, answers_at, lane-by-lt}
use Rattle.run_block.proofs.lanes.run_lanes.Goals as goal

pub loop-j-init : goal.loop-j-init
loop-j-init c = none_yet _ _ _

pub bits_at-requires : goal.bits_at-requires
bits_at-requires c =
    let w = c.requires.4 in
    (omega (arith, w.lane_in c.loop-j.j c.loop-j-test.true), in-word c.args.n c.loop-j.j c.requires.0 w.n_word)

pub overflow_add-j : goal.overflow_add-j
overflow_add-j c = omega (arith, c.requires.4.first_in c.loop-j.j c.loop-j-test.true, le-times c.args.m (c.loop-j.j + c.args.skip) c.requires.1)

pub bits_at-requires-in-loop-j : goal.bits_at-requires-in-loop-j
bits_at-requires-in-loop-j c =
    let w = c.requires.4 in
    (omega (arith, w.first_in c.loop-j.j c.loop-j-test.true), in-word c.args.m _ c.requires.1 w.m_word)

pub bits_at-requires-in-loop-j-2 : goal.bits_at-requires-in-loop-j-2
bits_at-requires-in-loop-j-2 c =
    let w = c.requires.4 in
    let fits : c.args.m * c.second_at.result.0 + c.args.m ≤ 128 =
    subst (λ (i : ℕ). c.args.m * i + c.args.m ≤ 128) (sym c.second_at.ensures) (w.second_in c.loop-j.j c.loop-j-test.true)
    in
    (omega (arith, fits), in-word c.args.m _ c.requires.1 w.m_word)

pub loop-j-preserved : goal.loop-j-preserved
unfolding lane
loop-j-preserved c =
    let a = c.args in
    let q = c.requires in
    let is = answers_at a.op a.n c.bits_at.ensures c.bits_at-in-loop-j.ensures
    (c.bits_at-in-loop-j-2.ensures ∙ ap (λ (t : ℕ). number a.b / 2 ^ (a.m * t) % 2 ^ a.m) c.second_at.ensures)
    c.lane_at-l.ensures
    in
    one_more a.n a.k _ _ (lane-by-lt a.op a.n a.m a.skip a.element a.index.0 _ _ _ q.0 (at_most a.n q.4.n_word) q.2 q.3) c.loop-j.j _ _ _ _ _ _ c.loop-j.invariant
    (q.4.lane_in c.loop-j.j c.loop-j-test.true) is.bits_are is.saturated_is c.shl.ensures c.add-acc.ensures

pub returns : goal.returns
returns c =
    let a = c.args in
    let q = c.requires in
    let e : c.loop-j.j ≡ a.k = omega arith in
    let kept = rw e at c.loop-j.invariant in
    record {
      bits_are = two-words a.n a.k _ _ (lane-by-lt a.op a.n a.m a.skip a.element a.index.0 _ _ _ q.0 (at_most a.n q.4.n_word) q.2 q.3) c.loop-j.acc c.loop-j.saturated kept
          (all_in a.n a.k q.4.lane_in);
      saturated_is = kept.flag;
    }
