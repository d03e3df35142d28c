-- shift_at: the lane, and the signed amount if the shift is by a register.
use native.Mathlib.Omega.{arith}
use mathlib.Core.Bool.{true}
use mathlib.Core.Path.{◌≡◌, sym, ◌∙◌}
use Rattle.lower_kinds.specs.Sources.{is_register}
use Rattle.saturation_at.proofs.At.{at_register, at-immediate}
use borrow.Author.Rules.{rules}
use Rattle.saturation_at.proofs.shift_at.Statement.{statement}
use Rattle.saturation_at.proofs.shift_at.Tie as tie

-- ---- the places, and that the shift is by a register

by_register : (c : tie.Then-is_register) → is_register c.args.kind ≡ true
by_register c = sym c.is_register.ensures ∙ c.if-is_register.true

-- ---- needs

extract-lane-requires : tie.Need-extract_lane-value-requires
extract-lane-requires c κs = search rules

is-register-requires : tie.Need-is_register-requires
is-register-requires c κs = search rules

signed-amount-requires : tie.Need-signed_amount-amount-requires
signed-amount-requires c κs =
    let r = c in
    let s = c in
    omega (arith, s.requires, r.extract_lane-value.ensures.sized, s.requires.1.0.1 (by_register c.before))

shift-bit-requires : tie.Need-shift_bit-requires
shift-bit-requires c κs =
    let amount = c in
    let r = c in
    let p = r.requires in
    let a = r.extract_lane-value.ensures.sized in
    let b = amount.signed_amount-amount.ensures.sized in
    (omega (arith, p, a, b), (omega (arith, a, b), omega (arith, b), p.1.1.0, p.1.1.1, p.1.1.2, p.1.1.3))

same_length : tie.Need-shape_of-pool-then-is_register
same_length c = search rules

returns : tie.Need-returns-then-is_register
returns c =
    let l-shift-bit = c in
    let amount = c in
    let r = c in
    let s = c in
    at_register s.args.kind s.args.signed s.requires.1.1.4 (by_register c.before.before.before.before.before.before.before.before.before.before) r.extract_lane-value.ensures
    amount.signed_amount-amount.ensures l-shift-bit.shift_bit.ensures

shift-bit-requires-2 : tie.Need-shift_bit-requires-2
shift-bit-requires-2 c κs = search rules

same-length-2 : tie.Need-shape_of-pool
same-length-2 c = search rules

returns-2 : tie.Need-returns
returns-2 c =
    let l-shift-bit2 = c in
    let e = c in
    let r = c in
    let s = c in
    at-immediate s.args.kind s.args.signed s.requires.1.1.4 (sym r.is_register.ensures ∙ e.if-is_register.false) r.extract_lane-value.ensures
    l-shift-bit2.shift_bit-2.ensures

pub shift_at_spec : {M : Type 1} → statement M
shift_at_spec =
    tie.close
    (tie.spec
    extract-lane-requires
    is-register-requires
    signed-amount-requires
    shift-bit-requires
    same_length
    returns
    shift-bit-requires-2
    same-length-2
    returns-2)
