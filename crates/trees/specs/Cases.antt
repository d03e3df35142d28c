-- Worked cases: document 01's proved set P, and a case for each trap and fault that set P lets pass. One statement over each table.
use Rattle.std.specs.Prelude.{Bool, true, false, ◌&&◌, List, [], ◌∷◌, ◌≡◌, ℕ, eqb}
use Rattle.terms.specs.Expr.{Const}
use Rattle.terms.specs.Value.{value}
use Rattle.neon.specs.Op.{Op}
use Rattle.neon.specs.Form.{form, source_bits}
use Rattle.neon.specs.Arm.{arm_lane}
use Rattle.trees.specs.Neon.{neon_op}
use Rattle.trees.specs.Trees.{value_of}

-- an operation, the bits n of a lane, the immediate i, the old lane d, the source lanes a and b, and the lane of the result
pub data Case : Type 0 where
  case : Op → (n i d a b result : ℕ) → Case

abbrev pub set_p : List Case
set_p =
    case Op.SQADD 8 0 0 0x7f 0x01 0x7f
    ∷ case Op.SQSUB 8 0 0 0x80 0x01 0x80
    ∷ case Op.UQSUB 8 0 0 3 5 0
    ∷ case Op.SQSHLI 8 7 0 0xff 0 0x80
    ∷ case Op.SQSHLI 8 7 0 0x01 0 0x7f
    ∷ case Op.SQSHL 8 0 0 0xff 7 0x80
    ∷ case Op.SQSHL 8 0 0 0x01 7 0x7f
    ∷ case Op.SSHL 8 0 0 0x80 0x80 0xff
    ∷ case Op.SRSHL 8 0 0 0x7f 0x80 0
    ∷ case Op.SRI 8 8 0x3c 0x55 0 0x3c
    ∷ case Op.SQDMULH 16 0 0 0x8000 0x8000 0x7fff
    ∷ case Op.SQRDMULH 32 0 0 0x8000_0000 0x8000_0000 0x7fff_ffff
    ∷ case Op.UQXTN 16 0 0 65600 0 65535
    ∷ case Op.CLS 8 0 0 0x80 0 0
    ∷ case Op.SQABS 8 0 0 0x80 0 0x7f
    ∷ case Op.SHADD 8 0 0 0xff 0x00 0xff
    ∷ case Op.SQDMLAL 32 0 0x8000_0000 0x8000 0x8000 0xffff_ffff
    ∷ case Op.USQADD 8 0 3 0xfb 0 0
    ∷ []

-- SRSHL at n + 1 bits; SUQADD and USQADD at n + 1 bits; a rounding narrow at 2n bits; SQSHLU without its extra bit; SQDMLAL without
-- its second clamp; RADDHN and RSUBHN without their half
abbrev pub faults : List Case
faults =
    case Op.SRSHL 8 0 0 0x80 0x80 0
    ∷ case Op.SRSHL 8 0 0 0x00 0xf7 0
    ∷ case Op.SUQADD 8 0 0x7f 0xff 0 0x7f
    ∷ case Op.USQADD 8 0 0xff 0x7f 0 0xff
    ∷ case Op.SQRSHRN 8 4 0 0x7fff 0 0x7f
    ∷ case Op.UQRSHRN 8 8 0 0xffff 0 0xff
    ∷ case Op.SQSHLU 8 0 0 0x01 0 0x01
    ∷ case Op.SQDMLAL 32 0 0x7fff_ffff 0x4000 0x4000 0x7fff_ffff
    ∷ case Op.RADDHN 8 0 0 0x0080 0x0000 0x01
    ∷ case Op.RADDHN 8 0 0 0x007f 0x0000 0x00
    ∷ case Op.RSUBHN 8 0 0 0x0100 0x0080 0x01
    ∷ []

-- the result is the Arm value, and the value of the term of one lane
unfoldable pub gives : Case → Bool
gives (case o n i d a b result) =
    let m = source_bits (form o).lanes n in
    eqb (arm_lane o n i d a b) result && eqb (value (λ x. 0) (value_of (neon_op o i false) n 1 i (Const d n) (Const a m) (Const b m))) result

abbrev pub every : (Case → Bool) → List Case → Bool
every f [] = true
every f (c ∷ cs) = f c && every f cs

abbrev pub SetP : Type 0
SetP = every gives set_p ≡ true

abbrev pub NoFault : Type 0
NoFault = every gives faults ≡ true
