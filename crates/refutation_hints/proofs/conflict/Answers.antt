use Rattle.std.proofs.Common.{◌≡◌, ◌-◌, ◌+◌, ◌<◌, ℕ, Bool, List, true, false, cond, length, get_or, drop, take, eqb, refl, sym, ap, ◌∙◌, subst, arith}
use borrow.Author.Tests.{eq-eqb, ne_eqb}
use Rattle.std.proofs.lemmas.Slice.{between_is}
use Rattle.gates.specs.Graph.{inputs}
use Rattle.gates.specs.Grow.{negated, literal_of}
use Rattle.refutation.specs.Refutation.{cited, and_false}
use Rattle.refutation.specs.Refutation as refutation
use Rattle.refutation_hints.specs.Memory.{marked, clauses_to, Ready}
use Rattle.refutation_hints.proofs.Lists.{negated-low}
use Rattle.refutation_hints.proofs.Steps.{cited-low}
use Rattle.refutation_hints.proofs.Marks.{marked_more, at-most-set, ready-again, conflict-one, conflict-end}
use Rattle.refutation_hints.proofs.conflict.Goals as goal

-- what a hint leaves is nothing, too much, or a literal of the graph, whose negation has a mark
place-low :
    {g : List ℕ} {count l : ℕ} {ws starts : List ℕ} {k : ℕ} {old : List ℕ} → Ready g count l ws starts k old → (marks : List ℕ) → length marks ≡ length old
    → (v left at : ℕ) → left ≡ cited g count (clauses_to ws starts l k) (marked marks k) v → (left ≡ 0 → ⊥) → (left ≡ 1 → ⊥) → at ≡ negated (left - 2)
    → at < length marks
place-low {count} {k} r marks e v left at is some one at_is =
    let ready = ready-again r e in
    let room = ready.room in
    let low = subst (λ (n : ℕ). n < literal_of count + 2) (sym is) (cited-low ready (marked marks k) v) in
    rw at_is (negated-low (left - 2) (inputs + count) (length marks) (omega (arith, low, some, one)) (omega (arith, room)))

-- the hints from one on, of whose clause `left` is left
from-here :
    (g : List ℕ) (count : ℕ) (steps : List (List ℕ)) (isFalse : ℕ → Bool) (hints : List ℕ) (i left v : ℕ) {whole : Bool} → i < length hints
    → left ≡ cited g count steps isFalse v → v ≡ get_or hints i 0 → refutation.conflict g count steps isFalse (drop i hints) ≡ whole
    → cond (eqb left 0) true
    (cond (eqb left 1) false (refutation.conflict g count steps (and_false isFalse (negated (left - 2))) (drop (i + 1) hints))) ≡ whole
from-here g count steps isFalse hints i left v h is v_is e =
    sym (conflict-one g count steps isFalse hints i left h (is ∙ ap (cited g count steps isFalse) v_is)) ∙ e

pub loop-hint-init : goal.loop-hint-init
loop-hint-init c = record { at_most = c.requires.3; rest_is = refl }

pub returns-then-left-eq0 : goal.returns-then-left-eq0
returns-then-left-eq0 c =
    let a = c.args in
    let l = c.loop-hint in
    let f = c.left_of_hint-left in
    let here = from-here a.graph.now a.count (clauses_to a.words.now a.starts.now a.l a.k) (marked l.marks a.k) (take (a.to - a.from) (drop a.from a.words.now))
    l.hint-index f.result c.wide.result c.loop-hint-test.true f.ensures c.wide.ensures.0 l.invariant.rest_is in
    rw (← between_is) (rw (eq-eqb _ _ c.if-left-eq0.true) at here, l.invariant.at_most)

pub returns-then-left-eq1 : goal.returns-then-left-eq1
returns-then-left-eq1 c =
    let a = c.args in
    let l = c.loop-hint in
    let f = c.left_of_hint-left in
    let here = from-here a.graph.now a.count (clauses_to a.words.now a.starts.now a.l a.k) (marked l.marks a.k) (take (a.to - a.from) (drop a.from a.words.now))
    l.hint-index f.result c.wide.result c.loop-hint-test.true f.ensures c.wide.ensures.0 l.invariant.rest_is in
    rw (← between_is) (rw (ne_eqb _ _ c.if-left-eq0.false, eq-eqb _ _ c.if-left-eq1.true) at here, l.invariant.at_most)

pub offset_bounds-marks-negate : goal.offset_bounds-marks-negate
offset_bounds-marks-negate c =
    let f = c.left_of_hint-left in
    let low = place-low c.requires.0 c.loop-hint.marks c.loop-hint.auto.marks c.wide.result f.result c.negate.result f.ensures
    c.if-left-eq0.false c.if-left-eq1.false c.negate.ensures in
    omega (arith, low, c.loop-hint.auto.marks, c.well_formed)

pub bounds-marks-negate : goal.bounds-marks-negate
bounds-marks-negate c =
    let f = c.left_of_hint-left in
    place-low c.requires.0 c.loop-hint.marks c.loop-hint.auto.marks c.wide.result f.result c.negate.result f.ensures
    c.if-left-eq0.false c.if-left-eq1.false c.negate.ensures

pub loop-hint-preserved : goal.loop-hint-preserved
loop-hint-preserved c =
    let a = c.args in
    let l = c.loop-hint in
    let f = c.left_of_hint-left in
    let at = c.negate.result in
    let low = place-low c.requires.0 l.marks l.auto.marks c.wide.result f.result at f.ensures c.if-left-eq0.false c.if-left-eq1.false c.negate.ensures in
    let here = from-here a.graph.now a.count (clauses_to a.words.now a.starts.now a.l a.k) (marked l.marks a.k) (take (a.to - a.from) (drop a.from a.words.now))
    l.hint-index f.result c.wide.result c.loop-hint-test.true f.ensures c.wide.ensures.0 l.invariant.rest_is in
    record {
      at_most = at-most-set l.marks at a.k low l.invariant.at_most;
      rest_is = rw (marked_more l.marks at a.k low, c.negate.ensures) (rw (ne_eqb _ _ c.if-left-eq0.false, ne_eqb _ _ c.if-left-eq1.false) at here);
    }

pub returns : goal.returns
returns c =
    let a = c.args in
    let l = c.loop-hint in
    let done = conflict-end a.graph.now a.count (clauses_to a.words.now a.starts.now a.l a.k) (marked l.marks a.k)
    (take (a.to - a.from) (drop a.from a.words.now)) l.hint-index c.loop-hint-test.false in
    rw (← between_is) (sym (sym l.invariant.rest_is ∙ done), l.invariant.at_most)
