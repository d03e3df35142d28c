-- made_bits is `made_bits`: 64 if lanes narrow, else the view's
use mathlib.Core.Path.{◌≡◌, refl, sym, ◌∙◌}
use Rattle.lower_shape.proofs.Rows.{made-half, made_all}
use Rattle.neon.specs.Op.{op_at, bits_if}
use Rattle.neon.specs.Form.{form, made_bits}
use borrow.Author.Rules.{rules}
use Rattle.lower_shape.proofs.made_bits.Statement.{statement}
use Rattle.lower_shape.proofs.made_bits.Tie as tie

narrows-requires : tie.Need-narrows-requires
narrows-requires c κs = search rules

returns : tie.Need-returns-then-narrows
returns c =
    let n = c in
    sym (made-half (form (op_at n.args.operation)).lanes n.args.full (sym n.narrows.ensures ∙ c.if-narrows.true))

-- lanes that do not narrow: the view's bits
whole : (c : tie.Else-narrows) → let a = c.args in made_bits (form (op_at a.operation)).lanes a.full ≡ bits_if a.full
whole c =
    let a = c.args in
    made_all (form (op_at a.operation)).lanes a.full (sym c.narrows.ensures ∙ c.if-narrows.false)

returns-2 : tie.Need-returns-then-full
returns-2 c = sym (whole c.before ∙ rw c.if-full.true refl)

returns-3 : tie.Need-returns-else-full
returns-3 c = sym (whole c.before ∙ rw c.if-full.false refl)

pub made_bits_spec : {M : Type 1} → statement M
made_bits_spec = tie.close (tie.spec narrows-requires returns returns-2 returns-3)
