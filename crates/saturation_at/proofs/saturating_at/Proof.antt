-- saturating_at: one lane or two, as the kind uses them.
use native.Mathlib.Omega.{arith}
use mathlib.Core.Bool.{true}
use mathlib.Core.Path.{◌≡◌, sym, subst, ◌∙◌}
use Prim.Native.Nat.{ℕ, ◌+◌, ◌*◌, ◌≤◌}
use Rattle.lower_kinds.specs.Sources.{uses_second}
use Rattle.lower_kinds.proofs.Bits.{source-least}
use Rattle.saturation_at.proofs.At.{at-two, at_one}
use borrow.Author.Rules.{rules}
use Rattle.saturation_at.proofs.saturating_at.Statement.{statement}
use Rattle.saturation_at.proofs.saturating_at.Tie as tie

-- ---- the places, and the bits of a source lane

fits : (c : tie.After-source_bits-bits) → let n = c.source_bits-bits.result in (1 ≤ n) × (n * c.args.index.0 + n ≤ 128)
fits c =
    let a = c.args in
    let p = c.requires.1.1 in
    let e = c.source_bits-bits.ensures in
    (omega (arith, p.0, source-least a.kind a.lane_bits, e), subst (λ (x : ℕ). x * a.index.0 + x ≤ 128) (sym e) p.4)

used : (c : tie.Then-uses_second) → uses_second c.args.kind ≡ true
used c = sym c.uses_second.ensures ∙ c.if-uses_second.true

-- ---- needs

source-bits-requires : tie.Need-source_bits-bits-requires
source-bits-requires c κs = search rules

extract-lane-requires : tie.Need-extract_lane-a-requires
extract-lane-requires c κs =
    let s = c in
    omega (arith, s.requires.0, s.requires.1.0.0, fits c.before)

uses-second-requires : tie.Need-uses_second-requires
uses-second-requires c κs = search rules

extract-lane-requires-2 : tie.Need-extract_lane-b-requires
extract-lane-requires-2 c κs =
    let u = c in
    let s = c in
    omega (arith, s.requires.0, s.requires.1.0.1 (used c.before), u.extract_lane-a.ensures.sized, fits c.before.before.before.before.before.before.before)

saturating-bit-requires : tie.Need-saturating_bit-requires
saturating-bit-requires c κs =
    let second = c in
    let u = c in
    let p = u.requires in
    let a = u.extract_lane-a.ensures.sized in
    let b = second.extract_lane-b.ensures.sized in
    (omega (arith, p.0, a, b), (omega (arith, a, b), omega (arith, b), p.1.1.0, p.1.1.1, p.1.1.2, p.1.1.3))

same_length : tie.Need-shape_of-pool-then-uses_second
same_length c = search rules

returns : tie.Need-returns-then-uses_second
returns c =
    let l-saturating-bit = c in
    let second = c in
    let u = c in
    let s = c in
    at-two s.args.lane_bits s.args.kind s.args.signed_sources s.requires.1.1.4 u.source_bits-bits.ensures (used c.before.before.before.before.before.before.before.before.before.before)
    u.extract_lane-a.ensures second.extract_lane-b.ensures l-saturating-bit.saturating_bit.ensures

saturating-bit-requires-2 : tie.Need-saturating_bit-requires-2
saturating-bit-requires-2 c κs = search rules

same-length-2 : tie.Need-shape_of-pool
same-length-2 c = search rules

returns-2 : tie.Need-returns
returns-2 c =
    let l-saturating-bit2 = c in
    let e = c in
    let u = c in
    let s = c in
    at_one s.args.lane_bits s.args.kind s.args.signed_sources s.requires.1.1.4 u.source_bits-bits.ensures (sym u.uses_second.ensures ∙ e.if-uses_second.false)
    u.extract_lane-a.ensures l-saturating-bit2.saturating_bit-2.ensures

pub saturating_at_spec : {M : Type 1} → statement M
saturating_at_spec =
    tie.close
    (tie.spec
    source-bits-requires
    extract-lane-requires
    uses-second-requires
    extract-lane-requires-2
    saturating-bit-requires
    same_length
    returns
    saturating-bit-requires-2
    same-length-2
    returns-2)
