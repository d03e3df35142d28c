-- most_m is most_m: both of its choices are the definition's
use borrow.Author.Rules.{rules}
use mathlib.Core.Path.{refl}
use Rattle.block_record_check.proofs.most_m.Statement.{statement}
use Rattle.block_record_check.proofs.most_m.Tie as tie
use Rattle.block_record_check.proofs.most_m.Lts.{then-short, else-short}

by-element-requires : tie.Need-by_element-requires
by-element-requires c σs = search rules

has-second-requires : tie.Need-has_second-requires
has-second-requires c σs = search rules

returns : tie.Need-returns-then-has_second
returns c = λ o v h e b.
    let element = c.by_element.ensures o v h e in
    rw (← c.has_second.ensures o v h e, c.if-has_second.true, ← element, ← b)
    (elim c.if-short.branch [ then-short w ↦ rw (w.if-short.true, w.last-is) | else-short w ↦ rw (w.if-short.false, w.last-is) ])

returns-2 : tie.Need-returns-else-has_second
returns-2 c = λ o v h e b. rw (← c.has_second.ensures o v h e, c.if-has_second.false) refl

pub most_m_spec : {M : Type 1} → statement M
most_m_spec = tie.close (tie.spec by-element-requires has-second-requires returns returns-2)
