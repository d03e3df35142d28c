-- The encodings of the 67 operations: Arm Architecture Reference Manual for A-profile, C4.1, "Advanced SIMD" classes of
-- "Data Processing -- Scalar Floating-Point and Advanced SIMD". An operation has a class, a bit U and an opcode.
use Rattle.std.specs.Prelude.{ℕ}
use Rattle.neon.specs.Op.{Op}

-- the five classes; in the last RBIT, a two-register miscellaneous operation whose field size is 01 at every arrangement
pub data Class : Type 0 where
  ShiftByImmediate ThreeSame ThreeDifferent TwoMiscellaneous ByElement TwoMiscellaneous01 : Class

pub record Encoding : Type 0 where
  pub class : Class
  pub U : ℕ
  pub opcode : ℕ

abbrev pub row : Class → ℕ → ℕ → Encoding
row c u x = record { class = c; U = u; opcode = x }

abbrev pub encoding : Op → Encoding
encoding Op.SHL = row ShiftByImmediate 0 0b01010
encoding Op.SQSHLI = row ShiftByImmediate 0 0b01110
encoding Op.UQSHLI = row ShiftByImmediate 1 0b01110
encoding Op.SQSHLU = row ShiftByImmediate 1 0b01100
encoding Op.SSHR = row ShiftByImmediate 0 0b00000
encoding Op.USHR = row ShiftByImmediate 1 0b00000
encoding Op.SRSHR = row ShiftByImmediate 0 0b00100
encoding Op.URSHR = row ShiftByImmediate 1 0b00100
encoding Op.SSHL = row ThreeSame 0 0b01000
encoding Op.USHL = row ThreeSame 1 0b01000
encoding Op.SRSHL = row ThreeSame 0 0b01010
encoding Op.URSHL = row ThreeSame 1 0b01010
encoding Op.SQSHL = row ThreeSame 0 0b01001
encoding Op.UQSHL = row ThreeSame 1 0b01001
encoding Op.SQRSHL = row ThreeSame 0 0b01011
encoding Op.UQRSHL = row ThreeSame 1 0b01011
encoding Op.SLI = row ShiftByImmediate 1 0b01010
encoding Op.SRI = row ShiftByImmediate 1 0b01000
encoding Op.SQADD = row ThreeSame 0 0b00001
encoding Op.UQADD = row ThreeSame 1 0b00001
encoding Op.SQSUB = row ThreeSame 0 0b00101
encoding Op.UQSUB = row ThreeSame 1 0b00101
encoding Op.SHADD = row ThreeSame 0 0b00000
encoding Op.UHADD = row ThreeSame 1 0b00000
encoding Op.SRHADD = row ThreeSame 0 0b00010
encoding Op.URHADD = row ThreeSame 1 0b00010
encoding Op.SQXTN = row TwoMiscellaneous 0 0b10100
encoding Op.UQXTN = row TwoMiscellaneous 1 0b10100
encoding Op.SQXTUN = row TwoMiscellaneous 1 0b10010
encoding Op.SHRN = row ShiftByImmediate 0 0b10000
encoding Op.RSHRN = row ShiftByImmediate 0 0b10001
encoding Op.SQSHRN = row ShiftByImmediate 0 0b10010
encoding Op.SQRSHRN = row ShiftByImmediate 0 0b10011
encoding Op.UQSHRN = row ShiftByImmediate 1 0b10010
encoding Op.UQRSHRN = row ShiftByImmediate 1 0b10011
encoding Op.SQSHRUN = row ShiftByImmediate 1 0b10000
encoding Op.SQRSHRUN = row ShiftByImmediate 1 0b10001
encoding Op.SQABS = row TwoMiscellaneous 0 0b00111
encoding Op.SQNEG = row TwoMiscellaneous 1 0b00111
encoding Op.SQDMULH = row ThreeSame 0 0b10110
encoding Op.SQRDMULH = row ThreeSame 1 0b10110
encoding Op.SQDMULL = row ThreeDifferent 0 0b1101
encoding Op.SQDMLAL = row ThreeDifferent 0 0b1001
encoding Op.SQDMLSL = row ThreeDifferent 0 0b1011
encoding Op.SQDMULL2 = row ThreeDifferent 0 0b1101
encoding Op.SQDMLAL2 = row ThreeDifferent 0 0b1001
encoding Op.SQDMLSL2 = row ThreeDifferent 0 0b1011
encoding Op.SQDMULLE = row ByElement 0 0b1011
encoding Op.SQDMLALE = row ByElement 0 0b0011
encoding Op.SQDMLSLE = row ByElement 0 0b0111
encoding Op.SQDMULL2E = row ByElement 0 0b1011
encoding Op.SQDMLAL2E = row ByElement 0 0b0011
encoding Op.SQDMLSL2E = row ByElement 0 0b0111
encoding Op.SUQADD = row TwoMiscellaneous 0 0b00011
encoding Op.USQADD = row TwoMiscellaneous 1 0b00011
encoding Op.SABD = row ThreeSame 0 0b01110
encoding Op.UABD = row ThreeSame 1 0b01110
encoding Op.SABA = row ThreeSame 0 0b01111
encoding Op.UABA = row ThreeSame 1 0b01111
encoding Op.CNT = row TwoMiscellaneous 0 0b00101
encoding Op.CLZ = row TwoMiscellaneous 1 0b00100
encoding Op.CLS = row TwoMiscellaneous 0 0b00100
encoding Op.RBIT = row TwoMiscellaneous01 1 0b00101
encoding Op.ADDHN = row ThreeDifferent 0 0b0100
encoding Op.RADDHN = row ThreeDifferent 1 0b0100
encoding Op.SUBHN = row ThreeDifferent 0 0b0110
encoding Op.RSUBHN = row ThreeDifferent 1 0b0110
