-- `name_length` gives the length of a node's name, at most 6.
use Prim.Native.Nat.{ℕ}
use lib.ListN.{length}
use Rattle.terms.specs.Display.{decimal}
use mathlib.Core.Path.{◌≡◌, refl, sym, ap, ◌∙◌}
use native.Mathlib.Omega.{arith}
use Rattle.pool.specs.Node.{kind_number}
use Rattle.script_length.proofs.Sizes.{size-register, size-node}
use Rattle.text_parts.proofs.Operands.{register-small}
use borrow.Author.Rules.{rules}
use Rattle.script_length.proofs.name_length.Statement.{statement}
use Rattle.script_length.proofs.name_length.Tie as tie

-- a Var
var-is : (c : tie.Then-kind_of-eq-VAR) → let a = c.args in kind_number a.p.now a.n.0 ≡ 1
var-is c = sym c.kind_of.ensures ∙ c.if-kind_of-eq-VAR.true

kind-of-requires : tie.Need-kind_of-requires
kind-of-requires c κs = search rules

low-requires : tie.Need-low-requires
low-requires c κs = search rules

number-length-requires : tie.Need-number_length-requires
number-length-requires c κs =
    let s = c in
    omega (arith, c.low.ensures, register-small s.args.p.now s.args.n.0 s.requires.ready _ refl (var-is c.before))

add-result : tie.Need-overflow_add-result
add-result c = search rules

returns : tie.Need-returns-then-kind_of-eq-VAR
returns c =
    let l = c in
    let a = l.args in
    let z = ap (λ (x : ℕ). length (decimal x)) l.low.ensures in (
      omega (arith, z, c.number_length.ensures.0, size-register a.p.now a.n.0 (var-is c.before.before)),
      omega (arith, c.number_length.ensures.1),
    )

number-length-requires-2 : tie.Need-number_length-requires-2
number-length-requires-2 c κs = search rules

add-result-2 : tie.Need-overflow_add-result-2
add-result-2 c = search rules

returns-2 : tie.Need-returns
returns-2 c =
    let o = c in
    let a = o.args in (
      omega (arith, c.number_length-2.ensures.0, size-node a.p.now a.n.0 (λ e. o.if-kind_of-eq-VAR.false (o.kind_of.ensures ∙ e))),
      omega (arith, c.number_length-2.ensures.1),
    )

pub name_length_spec : {M : Type 1} → statement M
name_length_spec =
    tie.close
    (tie.spec
    kind-of-requires
    low-requires
    number-length-requires
    add-result
    returns
    number-length-requires-2
    add-result-2
    returns-2)
