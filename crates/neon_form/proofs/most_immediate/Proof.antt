-- most_immediate is `most` of each operation with that code: the low bits say which of its four rows it is
use native.Mathlib.Omega.{arith}
use Rattle.neon.specs.Form.{form}
use mathlib.Core.Path.{sym, ◌∙◌}
use Rattle.neon_form.proofs.Parts.{parts, most-none, most-left, most-right, most-element, quotient}
use borrow.Author.Rules.{rules}
use Rattle.neon_form.proofs.most_immediate.Statement.{statement}
use Rattle.neon_form.proofs.most_immediate.Tie as tie

sub-result : tie.Need-overflow_sub-result
sub-result c = search rules

div-result : tie.Need-nonzero_div-result
div-result c = search rules

sub-result-2 : tie.Need-overflow_sub-result-in_default
sub-result-2 c = let s = c in omega (arith, quotient s.args.bits s.requires.0 s.requires.1)

returns : tie.Need-returns-in-1
returns c o v h e = most-none (form o).immediate c.args.bits (sym (parts c.args.code o v h e).row ∙ c.in-1.is)

returns-2 : tie.Need-returns-in-2
returns-2 c o v h e = most-left (form o).immediate c.args.bits (sym (parts c.args.code o v h e).row ∙ c.in-2.is)

returns-3 : tie.Need-returns-in-3
returns-3 c o v h e = most-right (form o).immediate c.args.bits (sym (parts c.args.code o v h e).row ∙ c.in-3.is)

returns-4 : tie.Need-returns-in_default
returns-4 c o v h e =
    let r = (parts c.args.code o v h e).row in
    most-element (form o).immediate c.args.bits (omega (arith, r)) (omega (arith, r)) (omega (arith, r))

pub most_immediate_spec : {M : Type 1} → statement M
most_immediate_spec =
    tie.close (tie.spec sub-result div-result sub-result-2 returns returns-2 returns-3 returns-4)
