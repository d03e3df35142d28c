-- shift_bit: each kind's arm builds its bit; a shift to the right is none of these.
use native.Mathlib.Omega.{arith}
use mathlib.Core.Path.{subst, ◌≡◌}
use mathlib.Core.Bool.{true}
use Rattle.trees.specs.declared.ShiftKind.{ShiftKind}
use Rattle.lower_kinds.specs.Sources.{AmountIn}
use Rattle.saturation.specs.Bits.{saturable_shift}
use Rattle.saturation_lane.proofs.Shifts.{is-left, is-register, not_right}
use borrow.Author.Rules.{rules}
use Rattle.saturation_lane.proofs.shift.shift_bit.Statement.{statement}
use Rattle.saturation_lane.proofs.shift.shift_bit.Tie as tie

-- ---- a shift to the left: where its kind is known, and the entry from there

-- ---- needs

enum-known-kind : tie.Need-enum_known-kind
enum-known-kind c = search rules

left-some-requires : tie.Need-left_some-requires
left-some-requires c κs =
    let e = c.in-LeftImmediate.is in
    let st = c in (
      omega (arith, st.requires),
      (
        omega (arith, st.requires),
        subst (λ (k : ShiftKind). AmountIn k st.args.lane_bits) e st.requires.1.4,
        omega (arith, st.requires),
        subst (λ (k : ShiftKind). saturable_shift k ≡ true) e st.requires.1.5,
      ),
    )

enum_told : tie.Need-enum_told-1
enum_told c = search rules

enum-known-kind-2 : tie.Need-enum_known-kind-in-Register-1
enum-known-kind-2 c = search rules

register-bit-requires : tie.Need-register_bit-requires
register-bit-requires c κs = search rules

same_length : tie.Need-shape_of-pool-in-LeftImmediate
same_length c = search rules

returns : tie.Need-returns-in-LeftImmediate
returns c =
    let l-left-some = c in
    let l-known-told = c in
    is-left l-known-told.args.signed l-known-told.in-LeftImmediate.is l-left-some.left_some.ensures

returns-2 : tie.Need-returns-in-RightImmediate
returns-2 c =
    let st = c in
    absurd (not_right st.args.kind c.in-RightImmediate.is st.requires.1.5)

same-length-2 : tie.Need-shape_of-pool-in-Register
same-length-2 c = search rules

returns-3 : tie.Need-returns-in-Register
returns-3 c =
    let l-register-bit = c in
    let l-kind2 = c in
    let st = c in
    is-register st.args.signed l-kind2.in-Register.is st.requires.1.5 l-register-bit.register_bit.ensures

pub shift_bit_spec : {M : Type 1} → statement M
shift_bit_spec =
    tie.close
    (tie.spec
    enum-known-kind
    left-some-requires
    enum_told
    enum-known-kind-2
    register-bit-requires
    same_length
    returns
    returns-2
    same-length-2
    returns-3)
