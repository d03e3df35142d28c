-- `words_encoding::decode::size_at` meets its contract.
use mathlib.Core.Path.{sym, ◌∙◌}
use native.Mathlib.Omega.{arith}
use borrow.Author.Tests.{eq-eqb, ne_eqb}
use Rattle.words_encoding.proofs.Lookup.{size-by-immh, size-of-rbit, size-by-field}
use Rattle.words_encoding.proofs.decode.size_at.Goals as goal

pub returns-then-operation-eq63 : goal.returns-then-operation-eq63
returns-then-operation-eq63 c =
    let rbit = c in
    let a = rbit.args in
    (size-of-rbit a.operation a.w rbit.requires.0 rbit.requires.1 (eq-eqb a.operation 63 c.if-operation-eq63.true), omega arith)

pub returns : goal.returns
returns c =
    let field = c in
    let a = field.args in
    (size-by-field a.operation a.w field.requires.0 field.requires.1 (λ e. c.if-class-eq4.false (field.requires.2 ∙ e)) (ne_eqb a.operation 63 c.if-operation-eq63.false), omega arith)
