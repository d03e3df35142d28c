use Rattle.std.proofs.Common.{ℕ, ◌+◌, ◌-◌, cond, length, take, drop, sym, ap, ◌∙◌, arith}
use Rattle.refutation.specs.Refutation.{remains, kept, all_below}
use Rattle.refutation_hints.specs.Memory.{marked}
use Rattle.refutation_hints.proofs.Lists.{listed-here, remains-one, remains-end, below-parts}
use Rattle.refutation_hints.proofs.left_of_list.Goals as goal

pub loop-word-init : goal.loop-word-init
loop-word-init c =
    let e = listed-here c.args.words.now c.args.at c.wide.result c.wide.ensures.0 in
    record {
      left_is = ap (remains (marked c.args.marks.now c.args.k) 0) e;
      below = ap (all_below (length c.args.marks.now)) e ∙ c.requires.1;
    }

pub look-left-requires : goal.look-left-requires
look-left-requires c =
    let p = below-parts _ _ c.loop-word.word-index c.loop-word-test.true c.loop-word.invariant.below in omega (arith, p.0, c.wide-in-loop-word.ensures.0)

pub loop-word-preserved : goal.loop-word-preserved
loop-word-preserved c =
    let m = marked c.args.marks.now c.args.k in
    let l = c.loop-word in
    let words = take (c.args.at + c.wide.result + 1 - (c.args.at + 1)) (drop (c.args.at + 1) c.args.words.now) in
    record {
      left_is =
          ap (λ (r : ℕ). remains m r (drop (l.word-index + 1) words)) (c.look-left.ensures ∙ ap (λ (x : ℕ). cond (m x) l.left (kept l.left x)) c.wide-in-loop-word.ensures.0)
          ∙ sym (remains-one m l.left words l.word-index c.loop-word-test.true)
          ∙ l.invariant.left_is;
      below = (below-parts (length c.args.marks.now) words l.word-index c.loop-word-test.true l.invariant.below).1;
    }

pub returns : goal.returns
returns c =
    let l = c.loop-word in
    sym (remains-end (marked c.args.marks.now c.args.k) l.left _ l.word-index c.loop-word-test.false) ∙ l.invariant.left_is
