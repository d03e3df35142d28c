-- `words_encoding::encode::size_part` meets its contract.
use mathlib.Core.Path.{sym, ap, ◌∙◌}
use mathlib.Core.Bool.{Bool, ◌&&◌}
use Prim.Native.Nat.{◌/◌}
use native.Mathlib.Omega.{arith}
use lib.Dec.{ltb}
use borrow.Author.Tests.{ltb-true}
use Rattle.facts.proofs.Tests.{and_both}
use Rattle.neon.specs.Op.{op_at}
use Rattle.neon.specs.Form.{form}
use Rattle.words_encoding.proofs.Pieces.{size-long, size-other}
use Rattle.words_encoding.proofs.encode.size_part.Goals as goal

pub returns-then-is_long-size : goal.returns-then-is_long-size
returns-then-is_long-size c =
    let s = c in
    let i = c.is_long in
    let is = sym i.ensures ∙ (and_both i.result _ c.if-is_long-size.true).0 in
    (size-long (form (op_at s.args.operation)).lanes s.args.arrangement s.requires.2 is, omega (arith, s.requires.2))

pub returns : goal.returns
returns c =
    let s = c in
    let a = s.args in
    let is = ap (λ (b : Bool). b && ltb 0 (a.arrangement / 2)) (sym c.is_long.ensures) ∙ c.if-is_long-size.false in
    (size-other (form (op_at a.operation)).lanes a.arrangement s.requires.2 is, omega (arith, s.requires.2))
