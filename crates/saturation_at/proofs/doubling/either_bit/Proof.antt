-- either_bit: the product's bit or the sum's.
use native.Mathlib.Omega.{arith}
use mathlib.Core.List.{[]}
use Rattle.lower.proofs.Run.{Begun, begun, Next, next}
use Rattle.saturation_at.proofs.At.{either}
use borrow.Author.Rules.{rules}
use Rattle.saturation_at.proofs.doubling.either_bit.Statement.{statement}
use Rattle.saturation_at.proofs.doubling.either_bit.Tie as tie

-- ---- from the place after a call back to the one before it, and what the calls so far leave

start-run : (s : tie.Start) → Begun s.requires s.args.pool.now s.args.count []
start-run s = begun s.requires _ _ _ tt

double-run : (c : tie.After-double-value) → Next (start-run c.before.before.before) c.double-value.ensures.sized
double-run c = next (start-run c.before.before.before) c.double-value.ensures.sized

clip-run : (c : tie.After-clip-first) → Next (double-run c.before.before.before.before.before) c.clip-first.ensures.sized
clip-run c = next (double-run c.before.before.before.before.before) c.clip-first.ensures.sized

clamp-run : (c : tie.After-clamp-product) → Next (clip-run c.before.before.before.before.before) c.clamp-product.ensures.sized
clamp-run c = next (clip-run c.before.before.before.before.before) c.clamp-product.ensures.sized

sum-run : (c : tie.After-sum_bit-second) → Next (clamp-run c.before.before.before.before.before) c.sum_bit-second.ensures.sized
sum-run c = next (clamp-run c.before.before.before.before.before) c.sum_bit-second.ensures.sized

bv-run : (c : tie.After-bv) → Next (sum-run c.before.before.before.before.before.before) c.bv.ensures.sized
bv-run c = next (sum-run c.before.before.before.before.before.before) c.bv.ensures.sized

-- ---- needs

add_wide : tie.Need-overflow_add-wide
add_wide c = search rules

double-requires : tie.Need-double-value-requires
double-requires c κs = search rules

clip-requires : tie.Need-clip-first-requires
clip-requires c κs = search rules

clamp-requires : tie.Need-clamp-product-requires
clamp-requires c κs = search rules

sum-bit-requires : tie.Need-sum_bit-second-requires
sum-bit-requires c κs = search rules

bv-requires : tie.Need-bv-requires
bv-requires c κs = omega (arith, sum-run c.before.before.before.before.before)

same_length : tie.Need-shape_of-pool
same_length c = (bv-run c.before.before).long

returns : tie.Need-returns
returns c =
    let l-bv = c in
    let l-sum-bit = c in
    let l-clamp = c in
    let l-clip = c in
    let l-double = c in
    let a = l-double.args in
    either a.op a.lane_bits l-double.double-value.ensures l-clip.clip-first.ensures l-clamp.clamp-product.ensures l-sum-bit.sum_bit-second.ensures l-bv.bv.ensures

pub either_bit_spec : {M : Type 1} → statement M
either_bit_spec =
    tie.close
    (tie.spec
    add_wide
    double-requires
    clip-requires
    clamp-requires
    sum-bit-requires
    bv-requires
    same_length
    returns)
