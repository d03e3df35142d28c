-- The 67 operations and the seven arrangements, in document 01's numbering ("Forms").
use Rattle.std.specs.Prelude.{Bool, true, false, cond, ◌&&◌, List, [], ◌∷◌, ℕ, ◌-◌, leb, get_or}

-- I: by an immediate, if the name has a form by a register too. 2: upper source lanes. E: by an element.
pub data Op : Type 0 where
  SHL SQSHLI UQSHLI SQSHLU SSHR USHR SRSHR URSHR SSHL USHL SRSHL URSHL SQSHL UQSHL SQRSHL UQRSHL SLI SRI : Op
  SQADD UQADD SQSUB UQSUB SHADD UHADD SRHADD URHADD SQXTN UQXTN SQXTUN : Op
  SHRN RSHRN SQSHRN SQRSHRN UQSHRN UQRSHRN SQSHRUN SQRSHRUN SQABS SQNEG SQDMULH SQRDMULH : Op
  SQDMULL SQDMLAL SQDMLSL SQDMULL2 SQDMLAL2 SQDMLSL2 SQDMULLE SQDMLALE SQDMLSLE SQDMULL2E SQDMLAL2E SQDMLSL2E : Op
  SUQADD USQADD SABD UABD SABA UABA CNT CLZ CLS RBIT ADDHN RADDHN SUBHN RSUBHN : Op

-- in order: SHL is 1, RSUBHN is 67
unfoldable pub operations : List Op
operations =
    SHL ∷ SQSHLI ∷ UQSHLI ∷ SQSHLU ∷ SSHR ∷ USHR ∷ SRSHR ∷ URSHR ∷ SSHL ∷ USHL ∷ SRSHL ∷ URSHL ∷ SQSHL ∷ UQSHL ∷ SQRSHL ∷ UQRSHL ∷ SLI ∷ SRI ∷
    SQADD ∷ UQADD ∷ SQSUB ∷ UQSUB ∷ SHADD ∷ UHADD ∷ SRHADD ∷ URHADD ∷ SQXTN ∷ UQXTN ∷ SQXTUN ∷ SHRN ∷ RSHRN ∷ SQSHRN ∷ SQRSHRN ∷ UQSHRN ∷ UQRSHRN ∷
    SQSHRUN ∷ SQRSHRUN ∷ SQABS ∷ SQNEG ∷ SQDMULH ∷ SQRDMULH ∷ SQDMULL ∷ SQDMLAL ∷ SQDMLSL ∷ SQDMULL2 ∷ SQDMLAL2 ∷ SQDMLSL2 ∷ SQDMULLE ∷ SQDMLALE ∷
    SQDMLSLE ∷ SQDMULL2E ∷ SQDMLAL2E ∷ SQDMLSL2E ∷ SUQADD ∷ USQADD ∷ SABD ∷ UABD ∷ SABA ∷ UABA ∷ CNT ∷ CLZ ∷ CLS ∷ RBIT ∷ ADDHN ∷ RADDHN ∷ SUBHN ∷
    RSUBHN ∷ []

abbrev pub is_operation : ℕ → Bool
is_operation k = leb 1 k && leb k 67

unfoldable pub op_at : ℕ → Op
op_at k = get_or operations (k - 1) SHL

pub data Arrangement : Type 0 where
  B8 B16 H4 H8 S2 S4 D2 : Arrangement

-- 8B is 0, 2D is 6
unfoldable pub arrangements : List Arrangement
arrangements = B8 ∷ B16 ∷ H4 ∷ H8 ∷ S2 ∷ S4 ∷ D2 ∷ []

abbrev pub is_arrangement : ℕ → Bool
is_arrangement k = leb k 6

unfoldable pub arrangement_at : ℕ → Arrangement
arrangement_at k = get_or arrangements k B8

-- the bits of a destination lane, document 01's n
abbrev pub bits_of_lane : Arrangement → ℕ
bits_of_lane B8 = 8
bits_of_lane B16 = 8
bits_of_lane H4 = 16
bits_of_lane H8 = 16
bits_of_lane S2 = 32
bits_of_lane S4 = 32
bits_of_lane D2 = 64

-- whether the view has 128 bits, else it has 64
abbrev pub full : Arrangement → Bool
full B8 = false
full B16 = true
full H4 = false
full H8 = true
full S2 = false
full S4 = true
full D2 = true

abbrev pub bits_if : Bool → ℕ
bits_if f = cond f 128 64

abbrev pub view : Arrangement → ℕ
view v = bits_if (full v)
