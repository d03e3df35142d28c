use Rattle.std.proofs.Common.{◌∙◌, length, refl, sym, ap, arith}
use mathlib.Core.Bool.{false≢true}
use Rattle.facts.specs.Answer.{code}
use Rattle.equal.proofs.Decide.{as-checked, as-empty, is-step}
use Rattle.equal.proofs.equal.Goals as goal

pub returns-then-not-nothing_to_refute : goal.returns-then-not-nothing_to_refute
returns-then-not-nothing_to_refute c =
    let a = c.args in
    as-checked c.in-Ok.ensures a.refutation.now (length a.marks.now) (length a.starts.now) refl c.check_refutation-answer.ensures
    (λ h e. false≢true (sym c.if-not-nothing_to_refute.true ∙ c.nothing_to_refute.ensures ∙ h))

pub returns-in-Ok-answer : goal.returns-in-Ok-answer
returns-in-Ok-answer c =
    let a = c.args in
    as-checked c.in-Ok.ensures a.refutation.now (length a.marks.now) (length a.starts.now) refl c.in-Ok-answer.ensures (λ h e. omega (arith, e))

pub returns-in-Step : goal.returns-in-Step
returns-in-Step c =
    let a = c.args in
    as-empty c.in-Ok.ensures a.refutation.now (length a.marks.now) (length a.starts.now) refl c.in-Err-answer.ensures
    (sym c.nothing_to_refute.ensures ∙ c.if-not-nothing_to_refute.false) (ap code c.in-Step.is)

pub returns-in_default : goal.returns-in_default
returns-in_default c =
    let a = c.args in
    as-checked c.in-Ok.ensures a.refutation.now (length a.marks.now) (length a.starts.now) refl c.in-Err-answer.ensures
    (λ h e. c.in_default.not-Step (is-step c.in-Err-answer.refused.refusal e))
