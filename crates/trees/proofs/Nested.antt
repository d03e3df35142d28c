-- The computed test of specs/Joined.antt: no cut of a cut is left in the tree of any entry of the form table. Assumes nothing.
use mathlib.Core.Path.{refl}
use Rattle.neon.specs.Op.{op_at, operations, arrangement_at, arrangements}
use Rattle.trees.specs.Simd.{concat_lanes}
use Rattle.trees.specs.Arith.{saturating_shift_left, absolute_difference_lane, shift_insert_lane}
use Rattle.trees.specs.Simd as Simd
use Rattle.trees.specs.Arith as Arith
use Rattle.trees.specs.Width as Width
use Rattle.trees.specs.Neon as Neon
use Rattle.trees.specs.Joined.{all_joined, form_joined, all, NestedJoined}

pub nested-joined : NestedJoined
unfolding all form_joined all_joined op_at operations arrangement_at arrangements concat_lanes saturating_shift_left absolute_difference_lane shift_insert_lane
    Simd.extract_lane Arith.clamp Arith.saturating_lane Arith.shift_right Arith.shift_lane Arith.leading_zeros Arith.population_count Arith.bitwise_unary_lane
    Arith.mixed_sign_add_lane Arith.doubling_product Arith.doubling_long_lane Arith.shift_lanes Arith.shift_insert_lanes Arith.mixed_sign_add_lanes
    Arith.doubling_long_lanes Arith.saturating_lanes Arith.bitwise_unary_lanes Arith.absolute_difference_lanes Width.high_narrow_lane Width.high_narrow_lanes
    Neon.result_tree
nested-joined = refl
