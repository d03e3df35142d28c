use Rattle.std.proofs.Common.{◌||◌, ◌+◌, ◌-◌, ℕ, ◌<◌, Bool, length, get_or, take, drop, eqb, refl, sym, ap, ◌∙◌, arith}
use mathlib.Core.Bool.{false≢true}
use borrow.Author.Tests.{lt-ltb, le-ltb}
use Rattle.std.proofs.lemmas.Slice.{between_is}
use Rattle.refutation.specs.Refutation.{among}
use Rattle.refutation_hints.specs.Memory.{marked}
use Rattle.refutation_hints.proofs.Lists.{below_one, among_one, below_end, among-end}
use Rattle.refutation_hints.proofs.Marks.{marked-set, at-most-set, or_swap}
use Rattle.refutation_hints.proofs.set_false.Goals as goal

pub loop-word-init : goal.loop-word-init
loop-word-init c = record { at_most = c.requires.3; below = refl; marks_are = λ x. refl }

pub returns-then-limit-l : goal.returns-then-limit-l
returns-then-limit-l c =
    let l = c.loop-word in
    let words = take (c.args.to - c.args.from) (drop c.args.from c.args.words.now) in
    let e = sym (l.invariant.below) ∙ below_one c.args.limit words l.word-index c.loop-word-test.true in
    let far = le-ltb (get_or words l.word-index 0) c.args.limit (omega (arith, c.wide-l.ensures.0, c.if-limit-l.true)) in
    record {
      answer = rw (← between_is) (sym (rw far at e));
      marks_are = λ e. absurd (false≢true e);
      at_most = l.invariant.at_most;
    }

pub loop-word-preserved : goal.loop-word-preserved
loop-word-preserved c =
    let l = c.loop-word in
    let words = take (c.args.to - c.args.from) (drop c.args.from c.args.words.now) in
    let later = among (drop (l.word-index + 1) words) in
    let w = c.wide-l.result in
    let e = c.wide-l.ensures.0 in
    let k = c.args.k in
    let below = c.if-limit-l.false in
    let room : w < length l.marks = omega (arith, l.auto.marks, c.requires.2, below) in
    let near = lt-ltb (get_or words l.word-index 0) c.args.limit (rw e at below) in
    record {
      at_most = at-most-set l.marks w k room l.invariant.at_most;
      below = sym (rw near at (below_one c.args.limit words l.word-index c.loop-word-test.true)) ∙ l.invariant.below;
      marks_are = λ x.
          ap (λ (b : Bool). later x || b) (marked-set l.marks w k x room)
          ∙ ap (λ (n : ℕ). later x || (eqb x n || marked l.marks k x)) e
          ∙ or_swap (eqb x (get_or words l.word-index 0)) (later x) (marked l.marks k x)
          ∙ ap (λ (b : Bool). b || marked l.marks k x) (sym (among_one words l.word-index x c.loop-word-test.true))
          ∙ l.invariant.marks_are x;
    }

pub returns : goal.returns
returns c =
    let l = c.loop-word in
    let words = take (c.args.to - c.args.from) (drop c.args.from c.args.words.now) in
    rw (← between_is) (record {
      answer = sym (sym l.invariant.below ∙ below_end c.args.limit words l.word-index c.loop-word-test.false);
      marks_are = λ _ x. rw (among-end words l.word-index x c.loop-word-test.false) at (l.invariant.marks_are x);
      at_most = l.invariant.at_most;
    })
