-- lost: the shift to the left, undone, is compared with the value.
use native.Mathlib.Omega.{arith}
use mathlib.Core.List.{[], ◌∷◌}
use Rattle.lower.proofs.Run.{Begun, begun, Next, next}
use Rattle.saturation_lane.proofs.Shifts.{is_lost}
use borrow.Author.Rules.{rules}
use Rattle.saturation_lane.proofs.shift.lost.Statement.{statement}
use Rattle.saturation_lane.proofs.shift.lost.Tie as tie

-- ---- from the place after a call back to the one before it, and what the calls so far leave

start-run : (s : tie.Start) → Begun s.requires s.args.pool.now s.args.count (s.args.value.0 ∷ [])
start-run s = begun s.requires _ _ _ (s.requires.1.0, tt)

left-run : (c : tie.After-bv-shifted) → Next (start-run c.before.before.before.before) c.bv-shifted.ensures.sized
left-run c = next (start-run c.before.before.before.before) c.bv-shifted.ensures.sized

back-run : (c : tie.After-bv-restored) → Next (left-run c.before.before.before.before.before) c.bv-restored.ensures.sized
back-run c = next (left-run c.before.before.before.before.before) c.bv-restored.ensures.sized

same-run : (c : tie.After-compare-same) → Next (back-run c.before.before.before.before.before) c.compare-same.ensures.sized
same-run c = next (back-run c.before.before.before.before.before) c.compare-same.ensures.sized

konst-run : (c : tie.After-konst-zero) → Next (same-run c.before.before.before.before) c.konst-zero.ensures.sized
konst-run c = next (same-run c.before.before.before.before) c.konst-zero.ensures.sized

konst2-run : (c : tie.After-konst-one) → Next (konst-run c.before.before.before.before) c.konst-one.ensures.sized
konst2-run c = next (konst-run c.before.before.before.before) c.konst-one.ensures.sized

ite-run : (c : tie.After-ite) → Next (konst2-run c.before.before.before.before.before.before.before) c.ite.ensures.sized
ite-run c = next (konst2-run c.before.before.before.before.before.before.before) c.ite.ensures.sized

-- ---- needs

shift-op-requires : tie.Need-shift_op-op-requires
shift-op-requires c κs = search rules

bv-requires : tie.Need-bv-shifted-requires
bv-requires c κs = search rules

bv-requires-2 : tie.Need-bv-restored-requires
bv-requires-2 c κs = search rules

compare-requires : tie.Need-compare-same-requires
compare-requires c κs = search rules

konst-requires : tie.Need-konst-zero-requires
konst-requires c κs = search rules

konst-requires-2 : tie.Need-konst-one-requires
konst-requires-2 c κs = omega (arith, konst-run c.before.before.before)

ite-requires : tie.Need-ite-requires
ite-requires c κs = omega (arith, konst2-run c.before.before.before.before.before.before)

same_length : tie.Need-shape_of-pool
same_length c = (ite-run c.before.before).long

returns : tie.Need-returns
returns c =
    let l-ite = c in
    let l-konst2 = c in
    let l-konst = c in
    let l-compare = c in
    let l-bv2 = c in
    let l-bv = c in
    let st = c in
    is_lost st.args.signed st.requires.1.2 st.requires.1.3 l-bv.shift_op-op.ensures l-bv.bv-shifted.ensures l-bv2.bv-restored.ensures l-compare.compare-same.ensures
    l-konst.konst-zero.ensures l-konst2.konst-one.ensures l-ite.ite.ensures

pub lost_spec : {M : Type 1} → statement M
lost_spec =
    tie.close
    (tie.spec
    shift-op-requires
    bv-requires
    bv-requires-2
    compare-requires
    konst-requires
    konst-requires-2
    ite-requires
    same_length
    returns)
