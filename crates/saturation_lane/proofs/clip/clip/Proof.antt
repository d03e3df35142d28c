-- clip: the bounds of each range, and the tests over them.
use native.Mathlib.Omega.{arith}
use mathlib.Core.Path.{refl}
use lib.Pow.{pow_pos}
use Prim.Native.Nat.{◌-◌}
use Rattle.lower.proofs.Clamping.{low_fits, high_fits}
use Rattle.saturation_lane.proofs.Clipping.{clip-signed, clip-unsigned, clip-to-unsigned}
use borrow.Author.Rules.{rules}
use Rattle.saturation_lane.proofs.clip.clip.Statement.{statement}
use Rattle.saturation_lane.proofs.clip.clip.Tie as tie

-- ---- the arms, by their ranges: the place where the bounds are known, the range, and the entry

-- ---- needs

enum_told : tie.Need-enum_told-1
enum_told c = search rules

sub-minus-power : tie.Need-overflow_sub-narrow
sub-minus-power c = search rules

minus-power-requires : tie.Need-minus_power-low-requires
minus-power-requires c κs = search rules

sub-power : tie.Need-overflow_sub-narrow-in-Signed
sub-power c = search rules

power-requires : tie.Need-power-requires
power-requires c κs = search rules

sub-t14 : tie.Need-overflow_sub-high
sub-t14 c = omega (arith, c.power.ensures, pow_pos (c.args.narrow - 1))

clip-between-requires : tie.Need-clip_between-requires
clip-between-requires c κs =
    let l-power = c in
    let st = c in
    omega (
      arith,
      st.requires,
      l-power.power.ensures,
      l-power.minus_power-low.ensures,
      low_fits st.args.wide (st.args.narrow - 1),
      high_fits st.args.wide (st.args.narrow - 1) (omega (arith, st.requires)),
    )

enum-told-2 : tie.Need-enum_told-in-Unsigned
enum-told-2 c = search rules

unsigned-max-requires : tie.Need-unsigned_max-requires
unsigned-max-requires c κs = search rules

clip-above-requires : tie.Need-clip_above-requires
clip-above-requires c κs =
    let l-unsigned-max = c in
    let st = c in
    omega (arith, st.requires, l-unsigned-max.unsigned_max.ensures, high_fits st.args.wide st.args.narrow (omega (arith, st.requires)))

enum-told-3 : tie.Need-enum_told-in-SignedToUnsigned
enum-told-3 c = search rules

unsigned-max-requires-2 : tie.Need-unsigned_max-requires-in-SignedToUnsigned
unsigned-max-requires-2 c κs = search rules

clip-between-requires-2 : tie.Need-clip_between-requires-in-SignedToUnsigned
clip-between-requires-2 c κs =
    let l-unsigned-max2 = c in
    let st = c in
    omega (arith, st.requires, l-unsigned-max2.unsigned_max-in-SignedToUnsigned.ensures, high_fits st.args.wide st.args.narrow (omega (arith, st.requires)), pow_pos st.args.wide)

same_length : tie.Need-shape_of-pool-in-Signed
same_length c = search rules

returns : tie.Need-returns-in-Signed
returns c =
    let l-clip-between = c in
    let l-power = c in
    clip-signed l-power.args.narrow l-power.in-Signed.is l-power.power.ensures l-power.minus_power-low.ensures refl
    l-clip-between.clip_between.ensures

same-length-2 : tie.Need-shape_of-pool-in-Unsigned
same-length-2 c = search rules

returns-2 : tie.Need-returns-in-Unsigned
returns-2 c =
    let l-clip-above = c in
    let l-unsigned-max = c in
    clip-unsigned l-unsigned-max.args.narrow l-unsigned-max.in-Unsigned.is l-unsigned-max.unsigned_max.ensures refl l-clip-above.clip_above.ensures

same-length-3 : tie.Need-shape_of-pool-in-SignedToUnsigned
same-length-3 c = search rules

returns-3 : tie.Need-returns-in-SignedToUnsigned
returns-3 c =
    let l-clip-between2 = c in
    let l-unsigned-max2 = c in
    clip-to-unsigned l-unsigned-max2.args.narrow l-unsigned-max2.in-SignedToUnsigned.is l-unsigned-max2.unsigned_max-in-SignedToUnsigned.ensures refl
    l-clip-between2.clip_between-in-SignedToUnsigned.ensures

pub clip_spec : {M : Type 1} → statement M
clip_spec =
    tie.close
    (tie.spec
    enum_told
    sub-minus-power
    minus-power-requires
    sub-power
    power-requires
    sub-t14
    clip-between-requires
    enum-told-2
    unsigned-max-requires
    clip-above-requires
    enum-told-3
    unsigned-max-requires-2
    clip-between-requires-2
    same_length
    returns
    same-length-2
    returns-2
    same-length-3
    returns-3)
