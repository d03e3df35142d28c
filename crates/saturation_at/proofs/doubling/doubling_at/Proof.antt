-- doubling_at: the lanes of both sources, and of d if it accumulates.
use native.Mathlib.Omega.{arith}
use mathlib.Core.Path.{refl, subst}
use mathlib.Core.List.{[]}
use Rattle.lower.proofs.Run.{Begun, begun, Next, next}
use Rattle.std.specs.declared.option.Option.{Option}
use Rattle.terms.specs.declared.BinOp.{BinOp}
use Rattle.lower.specs.Builds.{Below, read_if}
use Rattle.lower_doubling_long.specs.Elements.{accumulates}
use Rattle.saturation_at.proofs.At.{at-nothing, at_with}
use borrow.Author.Rules.{rules}
use Rattle.saturation_at.proofs.doubling.doubling_at.Statement.{statement}
use Rattle.saturation_at.proofs.doubling.doubling_at.Tie as tie

-- ---- from the place after a call back to the one before it, and what the calls so far leave

start-run : (s : tie.Start) → Begun s.requires s.args.pool.now s.args.count []
start-run s = begun s.requires _ _ _ tt

first_run : (c : tie.After-extract_lane-a) → Next (start-run c.before.before.before) c.extract_lane-a.ensures.sized
first_run c = next (start-run c.before.before.before) c.extract_lane-a.ensures.sized

second_run : (c : tie.After-extract_lane-b) → Next (first_run c.before.before.before.before) c.extract_lane-b.ensures.sized
second_run c = next (first_run c.before.before.before.before) c.extract_lane-b.ensures.sized

third-run : (c : tie.After-extract_lane-prior) → Next (second_run c.before.before.before.before.before) c.extract_lane-prior.ensures.sized
third-run c = next (second_run c.before.before.before.before.before) c.extract_lane-prior.ensures.sized

-- ---- needs

extract-lane-requires : tie.Need-extract_lane-a-requires
extract-lane-requires c κs = search rules

extract-lane-requires-2 : tie.Need-extract_lane-b-requires
extract-lane-requires-2 c κs = search rules

enum_told : tie.Need-enum_told-1
enum_told c = search rules

product-bit-requires : tie.Need-product_bit-requires
product-bit-requires c κs = search rules

enum-known-combine : tie.Need-enum_known-combine
enum-known-combine c = search rules

extract-lane-requires-3 : tie.Need-extract_lane-prior-requires
extract-lane-requires-3 c κs =
    let o = c in
    let s = c in
    omega (
      arith,
      second_run c.before.before.before.before,
      subst (λ (k : Option BinOp). Below (read_if (accumulates k) s.args.d 0) s.args.count) o.in-Some.is s.requires.1.0.2 refl,
    )

either-bit-requires : tie.Need-either_bit-requires
either-bit-requires c κs = omega (arith, third-run c.before.before.before.before.before.before)

same_length : tie.Need-shape_of-pool-in-None
same_length c = search rules

returns : tie.Need-returns-in-None
returns c =
    let l-product-bit = c in
    let told = c in
    let second = c in
    let st = c in
    at-nothing st.args.lane_bits st.args.from.0 st.args.with.0 st.args.index.0 st.requires.1.1.2 st.requires.1.1.3 told.in-None.is
    second.extract_lane-a.ensures second.extract_lane-b.ensures l-product-bit.product_bit.ensures

same-length-2 : tie.Need-shape_of-pool-in-Some
same-length-2 c = search rules

returns-2 : tie.Need-returns-in-Some
returns-2 c =
    let l-either-bit = c in
    let third = c in
    let second = c in
    let st = c in
    at_with st.args.lane_bits st.args.from.0 st.args.with.0 st.args.index.0 st.requires.1.1.2 st.requires.1.1.3 st.requires.1.1.4
    third.in-Some.is second.extract_lane-a.ensures second.extract_lane-b.ensures third.extract_lane-prior.ensures l-either-bit.either_bit.ensures

pub doubling_at_spec : {M : Type 1} → statement M
doubling_at_spec =
    tie.close
    (tie.spec
    extract-lane-requires
    extract-lane-requires-2
    enum_told
    product-bit-requires
    enum-known-combine
    extract-lane-requires-3
    either-bit-requires
    same_length
    returns
    same-length-2
    returns-2)
