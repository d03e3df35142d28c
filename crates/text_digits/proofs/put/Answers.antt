-- `put` meets its contract: after j turns the first j bytes are written.
use Rattle.std.proofs.Common.{arith, refl, sym, ap, ◌∙◌, ◌≡◌, subst, ℕ, ◌+◌, List, take, slice_index_or, slice_set, add-one}
use lib.Seq.{take-suc, take_all}
use Rattle.text_digits.specs.Writing.{Wrote}
use Rattle.text_digits.proofs.Laws.{wrote-byte, wrote_then}
use Rattle.text_digits.proofs.put.Goals as goal

pub loop-j-init : goal.loop-j-init
loop-j-init c = record { next_is = refl; after_is = refl }

pub loop-j-preserved : goal.loop-j-preserved
loop-j-preserved c =
    let a = c.args in
    let l = c.loop-j in
    let b = slice_index_or a.s.now l.j 0 in
    let next : a.at + l.j + 1 ≡ a.at + (l.j + 1) = omega arith in
    let more = sym (take-suc a.s.now l.j 0 c.loop-j-test.true) ∙ ap (λ (k : ℕ). take k a.s.now) (sym (add-one l.j)) in
    subst (λ (k : ℕ). Wrote a.buf.now a.at (take (l.j + 1) a.s.now) k (slice_set l.buf (a.at + l.j) b)) next
    (subst (λ (t : List ℕ). Wrote a.buf.now a.at t (a.at + l.j + 1) (slice_set l.buf (a.at + l.j) b)) more
    (wrote_then l.invariant (wrote-byte l.buf (a.at + l.j) b)))

pub returns : goal.returns
returns c =
    let s = c.args.s.now in
    let l = c.loop-j in
    record { next_is = refl; after_is = rw (take_all l.j s c.loop-j-test.false) at l.invariant.after_is }
