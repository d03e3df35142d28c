use Rattle.std.proofs.Common.{◌&&◌, sym, ◌∙◌, arith}
use Rattle.join.proofs.Refusals.{bad-first, bad-second, bad-chosen, no_room, none-bad}
use Rattle.join.proofs.check_join.Goals as goal

pub returns-then-not-starts : goal.returns-then-not-starts
returns-then-not-starts c = bad-first _ _ _ _ _ _ _ (sym c.starts.ensures ∙ c.if-not-starts.true)

pub returns-then-not-starts-2 : goal.returns-then-not-starts-2
returns-then-not-starts-2 c = bad-second _ _ _ _ _ _ _ (sym c.starts.ensures ∙ c.if-not-starts.false) (sym c.starts-2.ensures ∙ c.if-not-starts-2.true)

pub returns-then-not-of_width : goal.returns-then-not-of_width
returns-then-not-of_width c =
    bad-chosen _ _ _ _ _ _ _ (sym c.starts.ensures ∙ c.if-not-starts.false) (sym c.starts-2.ensures ∙ c.if-not-starts-2.false)
    (sym (λ i. c.of_width.ensures i && c.of_width-2.ensures i) ∙ c.if-not-of_width.true)

pub returns-then-places-c : goal.returns-then-places-c
returns-then-places-c c =
    no_room _ _ _ _ _ _ _ (sym c.starts.ensures ∙ c.if-not-starts.false) (sym c.starts-2.ensures ∙ c.if-not-starts-2.false)
    (sym (λ i. c.of_width.ensures i && c.of_width-2.ensures i) ∙ c.if-not-of_width.false) (omega (arith, c.places.ensures, c.if-places-c.true))

pub returns : goal.returns
returns c =
    none-bad _ _ _ _ _ _ _ (sym c.starts.ensures ∙ c.if-not-starts.false) (sym c.starts-2.ensures ∙ c.if-not-starts-2.false)
    (sym (λ i. c.of_width.ensures i && c.of_width-2.ensures i) ∙ c.if-not-of_width.false) (omega (arith, c.places.ensures, c.if-places-c.false))
