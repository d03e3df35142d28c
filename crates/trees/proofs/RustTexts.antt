-- The texts of specs/RustTexts.antt, computed. Assumes nothing.
use mathlib.Core.Path.{refl}
use Rattle.terms.specs.Display.{digits_to, decimal, hexadecimal, display}
use Rattle.neon.specs.Op.{op_at, operations, arrangement_at, arrangements}
use Rattle.trees.specs.Simd.{concat_lanes}
use Rattle.trees.specs.Simd as Simd
use Rattle.trees.specs.Arith as Arith
use Rattle.trees.specs.Width as Width
use Rattle.trees.specs.Neon as Neon
use Rattle.trees.specs.Block as Block
use Rattle.trees.specs.RustTexts.{whole_is, lane_is, RustTexts}

pub rust-texts : RustTexts
unfolding whole_is lane_is display decimal hexadecimal digits_to op_at operations arrangement_at arrangements concat_lanes Simd.extract_lane Arith.shift_right
    Arith.shift_lane Arith.shift_lanes Arith.leading_zeros Arith.population_count Arith.bitwise_unary_lane Arith.bitwise_unary_lanes Width.high_narrow_lane
    Width.high_narrow_lanes Neon.result_tree Block.record_tree Block.tree_step Block.tree_run
rust-texts = refl
