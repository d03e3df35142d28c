-- The statements of specs/Cases.antt, and worked cuts; all by computation. Assumes nothing.
use mathlib.Core.Bool.{true}
use mathlib.Core.Path.{◌≡◌, refl}
use Rattle.terms.specs.Expr.{Const, Var, Compare, Ite, Extract, Concat, width}
use Rattle.terms.specs.Value.{value, msb, bvneg, bvnot, bvadd, bvsub, bvmul, bvshl, bvlshr, bvashr, bvslt, bvsext}
use Rattle.neon.specs.Arm.{arm_lane, wrap, S, clamp_z, c_s, c_u, ones, equal_run, lanes}
use Rattle.trees.specs.Simd.{concat_lanes}
use Rattle.trees.specs.Arith.{Eq, saturating_shift_left, shift_insert_lane}
use Rattle.trees.specs.Trees.{extract_lane, leading_zeros, keep_lower}
use Rattle.trees.specs.Simd as Simd
use Rattle.trees.specs.Arith as Arith
use Rattle.trees.specs.Width as Width
use Rattle.trees.specs.Cases.{gives, SetP, NoFault}

all-cases : SetP × NoFault
unfolding gives arm_lane wrap S clamp_z c_s c_u ones equal_run lanes value width msb bvneg bvnot bvadd bvsub bvmul bvshl bvlshr bvashr bvslt bvsext concat_lanes
    saturating_shift_left shift_insert_lane Simd.extract_lane Arith.clamp Arith.saturating_lane Arith.shift_right Arith.shift_lane Arith.leading_zeros
    Arith.bitwise_unary_lane Arith.mixed_sign_add_lane Arith.doubling_product Arith.doubling_long_lane Arith.shift_lanes Arith.shift_insert_lanes
    Arith.mixed_sign_add_lanes Arith.doubling_long_lanes Arith.saturating_lanes Arith.bitwise_unary_lanes Width.high_narrow_lane Width.high_narrow_lanes
all-cases = (refl, refl)

pub set-P : SetP
set-P = all-cases.0

pub no-fault : NoFault
no-fault = all-cases.1

-- ---- cuts: a cut of a cut is joined, until its operand is no Extract
lane-of-view : extract_lane (Extract (Var 1) 63 0) 8 7 ≡ Extract (Var 1) 63 56
unfolding Simd.extract_lane
lane-of-view = refl

-- an inner cut that does not begin at bit 0
lane-of-high-half : extract_lane (Extract (Var 1) 127 64) 8 1 ≡ Extract (Var 1) 79 72
unfolding Simd.extract_lane
lane-of-high-half = refl

-- two inner cuts
lane-of-two : extract_lane (Extract (Extract (Var 1) 127 64) 31 16) 8 1 ≡ Extract (Var 1) 95 88
unfolding Simd.extract_lane
lane-of-two = refl

-- bits inside a lane
bit-of-lane : leading_zeros (extract_lane (Var 1) 8 1) 8 1 ≡ Ite (Compare Eq (Extract (Var 1) 8 8) (Const 1 1)) (Const 7 8) (Const 8 8)
unfolding Arith.leading_zeros Simd.extract_lane
bit-of-lane = refl

-- a low half
half-of-view : keep_lower true (Var 2) (Extract (Var 1) 127 0) 8 8 ≡ Concat (Var 2) (Extract (Var 1) 63 0)
half-of-view = refl
