-- least_immediate is `least` of each operation with that code: the low bits say 3, or else 0 is the least
use Rattle.neon.specs.Form.{form}
use mathlib.Core.Path.{sym, ◌∙◌}
use Rattle.neon_form.proofs.Parts.{parts, least-right, least_other}
use Rattle.neon_form.proofs.least_immediate.Statement.{statement}
use Rattle.neon_form.proofs.least_immediate.Tie as tie

returns : tie.Need-returns-then-code-eq3
returns c o v h e = least-right (form o).immediate (sym (parts c.args.code o v h e).row ∙ c.if-code-eq3.true)

returns-2 : tie.Need-returns-else-code-eq3
returns-2 c o v h e = least_other (form o).immediate (λ q. c.if-code-eq3.false ((parts c.args.code o v h e).row ∙ q))

pub least_immediate_spec : {M : Type 1} → statement M
least_immediate_spec = tie.close (tie.spec returns returns-2)
