-- register_bit: 0 for a negative amount, else what the shift loses.
use native.Mathlib.Omega.{arith}
use mathlib.Core.List.{[]}
use Rattle.lower.proofs.Run.{Begun, begun, Next, next}
use Rattle.saturation_lane.proofs.Shifts.{register}
use borrow.Author.Rules.{rules}
use Rattle.saturation_lane.proofs.shift.register_bit.Statement.{statement}
use Rattle.saturation_lane.proofs.shift.register_bit.Tie as tie

-- ---- from the place after a call back to the one before it, and what the calls so far leave

start-run : (s : tie.Start) → Begun s.requires s.args.pool.now s.args.count []
start-run s = begun s.requires _ _ _ tt

lost-run : (c : tie.After-lost-left) → Next (start-run c.before.before.before) c.lost-left.ensures.sized
lost-run c = next (start-run c.before.before.before) c.lost-left.ensures.sized

konst-run : (c : tie.After-konst-zero) → Next (lost-run c.before.before.before.before) c.konst-zero.ensures.sized
konst-run c = next (lost-run c.before.before.before.before) c.konst-zero.ensures.sized

negative-run : (c : tie.After-compare-negative) → Next (konst-run c.before.before.before.before.before) c.compare-negative.ensures.sized
negative-run c = next (konst-run c.before.before.before.before.before) c.compare-negative.ensures.sized

konst2-run : (c : tie.After-konst-none) → Next (negative-run c.before.before.before.before) c.konst-none.ensures.sized
konst2-run c = next (negative-run c.before.before.before.before) c.konst-none.ensures.sized

ite-run : (c : tie.After-ite) → Next (konst2-run c.before.before.before.before.before.before.before) c.ite.ensures.sized
ite-run c = next (konst2-run c.before.before.before.before.before.before.before) c.ite.ensures.sized

-- ---- needs

lost-requires : tie.Need-lost-left-requires
lost-requires c κs = search rules

konst-requires : tie.Need-konst-zero-requires
konst-requires c κs = search rules

compare-requires : tie.Need-compare-negative-requires
compare-requires c κs = search rules

konst-requires-2 : tie.Need-konst-none-requires
konst-requires-2 c κs = search rules

ite-requires : tie.Need-ite-requires
ite-requires c κs = omega (arith, konst2-run c.before.before.before.before.before.before)

same_length : tie.Need-shape_of-pool
same_length c = (ite-run c.before.before).long

returns : tie.Need-returns
returns c =
    let l-ite = c in
    let l-konst2 = c in
    let l-compare = c in
    let l-konst = c in
    let l-lost = c in
    let st = c in
    register st.args.lane_bits st.args.rounding st.args.signed st.requires.1.2 st.requires.1.3 l-lost.lost-left.ensures l-konst.konst-zero.ensures
    l-compare.compare-negative.ensures l-konst2.konst-none.ensures l-ite.ite.ensures

pub register_bit_spec : {M : Type 1} → statement M
register_bit_spec =
    tie.close
    (tie.spec
    lost-requires
    konst-requires
    compare-requires
    konst-requires-2
    ite-requires
    same_length
    returns)
