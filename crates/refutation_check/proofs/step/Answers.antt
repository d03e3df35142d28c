use Rattle.std.proofs.Common.{◌<◌, length, drop, refl, sym, ap, ◌∙◌, Some, arith}
use lib.ListN.{length-set}
use Rattle.refutation.specs.Refutation.{whole}
use Rattle.refutation_hints.specs.Memory.{skipped, clauses_to}
use Rattle.refutation_hints.proofs.Lists.{whole-fits}
use Rattle.refutation_hints.proofs.Marks.{at-most-set, ready-again}
use Rattle.refutation_check.proofs.Parts.{some-there, not_low, answer-is}
use Rattle.refutation_check.proofs.step.Goals as goal

pub returns-then-not-set_false : goal.returns-then-not-set_false
returns-then-not-set_false c =
    let a = c.args in
    let ws = a.words.now in
    let h = c.in_ok-hints.hints in
    let f = some-there (whole (drop a.at ws)) (skipped ws a.at) h c.in_ok-hints.ensures in
    let t = some-there (whole (drop h ws)) (skipped ws h) c.in_ok-end.end c.in_ok-end.ensures in
    let no = sym c.set_false.ensures.answer ∙ c.if-not-set_false.true in
    let steps = clauses_to ws a.starts.now a.l a.k in
    (rw (not_low a.graph.now a.count steps ws a.at h c.in_ok-end.end f.1 t.1 f.0 t.0 no) refl, c.set_false.ensures.at_most)

pub conflict-requires : goal.conflict-requires
conflict-requires c =
    let a = c.args in
    let ws = a.words.now in
    let h = c.in_ok-hints.hints in
    let marks = c.set_false.new.marks in
    let t = some-there (whole (drop h ws)) (skipped ws h) c.in_ok-end.end c.in_ok-end.ensures in
    let some : 0 < length marks = omega (arith, c.set_false.auto.marks, c.requires.0.room) in (
      ready-again c.requires.0 (length-set marks 0 a.k ∙ c.set_false.auto.marks),
      omega (arith, t.1),
      omega (arith, t.1, whole-fits ws h t.0),
      at-most-set marks 0 a.k some c.set_false.ensures.at_most,
    )

pub returns-then-not-conflict : goal.returns-then-not-conflict
returns-then-not-conflict c =
    let a = c.args in
    let marks = c.set_false.new.marks in
    let some : 0 < length marks = omega (arith, c.set_false.auto.marks, c.requires.0.room) in
    let marking = rw c.if-not-set_false.false at c.set_false.ensures in
    let is = answer-is a.graph.now a.count (clauses_to a.words.now a.starts.now a.l a.k) a.words.now a.at c.in_ok-hints.hints c.in_ok-end.end a.k
    a.marks.now marks c.conflict.result c.in_ok-hints.ensures c.in_ok-end.ensures c.requires.1 marking some c.conflict.ensures.0 in
    (rw (sym is ∙ c.if-not-conflict.true) refl, c.conflict.ensures.1)

pub returns : goal.returns
returns c =
    let a = c.args in
    let ws = a.words.now in
    let h = c.in_ok-hints.hints in
    let marks = c.set_false.new.marks in
    let f = some-there (whole (drop a.at ws)) (skipped ws a.at) h c.in_ok-hints.ensures in
    let t = some-there (whole (drop h ws)) (skipped ws h) c.in_ok-end.end c.in_ok-end.ensures in
    let some : 0 < length marks = omega (arith, c.set_false.auto.marks, c.requires.0.room) in
    let marking = rw c.if-not-set_false.false at c.set_false.ensures in
    let is = answer-is a.graph.now a.count (clauses_to ws a.starts.now a.l a.k) ws a.at h c.in_ok-end.end a.k
    a.marks.now marks c.conflict.result c.in_ok-hints.ensures c.in_ok-end.ensures c.requires.1 marking some c.conflict.ensures.0 in
    (rw (sym is ∙ c.if-not-conflict.false) (ap Some (t.1 ∙ ap (skipped ws) f.1)), c.conflict.ensures.1)
