use native.Mathlib.Omega.{arith}
use Rattle.lower_shift_insert.proofs.Inserting.{inserted-all, kept-lt}
use Rattle.lower_shift_insert.proofs.shift_insert_lanes.Goals as goal

pub invariant_of-inserts : goal.invariant_of-inserts
invariant_of-inserts c =
    let w = c.requires.le_lane_bits in
    record { fits = (w.0, w.1, w.3, omega (arith, c.kept_bits-kept.ensures, kept-lt c.args.left c.args.lane_bits c.args.shift c.requires.first_lt_count.2)) }

pub returns : goal.returns
returns c =
    let w = c.requires.le_lane_bits in
    inserted-all c.args.left c.args.lanes w.0 w.1 c.requires.first_lt_count.2 c.kept_bits-kept.ensures c.konst-amount.ensures c.concat_each.ensures
