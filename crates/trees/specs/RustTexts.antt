-- Texts that the Rust's own functions gave, with brackets on brackets where it joins no cut: whole registers after a block of one record, and lane 0
-- of results of 8-bit lanes. They check the Rust's trees against the Rust.
use Rattle.std.specs.Prelude.{Bool, true, false, ◌&&◌, List, [], ◌∷◌, ◌++◌, ◌≡◌, ℕ}
use Rattle.facts.specs.Same.{same}
use Rattle.terms.specs.Expr.{Var}
use Rattle.terms.specs.Display.{bytes, display}
use Rattle.neon.specs.declared.Instruction.{Instruction}
use Rattle.neon.specs.Op.{Op}
use Rattle.trees.specs.Simd.{rust}
use Rattle.trees.specs.Neon.{neon_op}
use Rattle.trees.specs.Neon as Neon
use Rattle.trees.specs.Rust.{rust_run}

-- the record of an operation and an arrangement with i 0, d 0 and n 1
abbrev pub one_record : (operation arrangement m : ℕ) → Instruction
one_record operation arrangement m = record { operation = operation; arrangement = arrangement; i = 0; d = 0; n = 1; m = m }

-- v0 after that record
unfoldable pub whole_is : (operation arrangement m : ℕ) → List ℕ → Bool
whole_is operation arrangement m text = same (display (rust_run (one_record operation arrangement m ∷ []) Var 0)) text

-- lane 0, of 8 bits, of an operation on v1
unfoldable pub lane_is : Op → List ℕ → Bool
lane_is o text = same (display (Neon.value_of rust (neon_op o 0 false) 8 1 0 (Var 0) (Var 1) (Var 2))) text

-- USHL 2D, SSHL 4H, ADDHN2 4S; CNT, CLZ, CLS, RBIT
abbrev pub RustTexts : Type 0
RustTexts =
    (whole_is 10 6 2
    (bytes "concat(ite((sext(v2[127:64][7:0], 64) <s 0x0:64), (v1[127:64] >>u (0x0:64 - sext(v2[127:64][7:0], 64))), (v1[127:64] << sext("
    ++ bytes "v2[127:64][7:0], 64))), ite((sext(v2[63:0][7:0], 64) <s 0x0:64), (v1[63:0] >>u (0x0:64 - sext(v2[63:0][7:0], 64))), (v1[63:0]"
    ++ bytes " << sext(v2[63:0][7:0], 64))))")
    && whole_is 9 2 2
    (bytes "zext(concat(ite((sext(v2[63:48][7:0], 16) <s 0x0:16), (v1[63:48] >>s (0x0:16 - sext(v2[63:48][7:0], 16))), (v1[63:48] << sext"
    ++ bytes "(v2[63:48][7:0], 16))), concat(ite((sext(v2[47:32][7:0], 16) <s 0x0:16), (v1[47:32] >>s (0x0:16 - sext(v2[47:32][7:0], 16))),"
    ++ bytes " (v1[47:32] << sext(v2[47:32][7:0], 16))), concat(ite((sext(v2[31:16][7:0], 16) <s 0x0:16), (v1[31:16] >>s (0x0:16 - sext(v2["
    ++ bytes "31:16][7:0], 16))), (v1[31:16] << sext(v2[31:16][7:0], 16))), ite((sext(v2[15:0][7:0], 16) <s 0x0:16), (v1[15:0] >>s (0x0:16 "
    ++ bytes "- sext(v2[15:0][7:0], 16))), (v1[15:0] << sext(v2[15:0][7:0], 16)))))), 128)")
    && whole_is 64 5 2
    (bytes "concat(concat((v1[127:64] + v2[127:64])[63:32], (v1[63:0] + v2[63:0])[63:32]), v0[63:0])")
    && lane_is Op.CNT
    (bytes "((((((((0x0:8 + zext(v1[7:0][0:0], 8)) + zext(v1[7:0][1:1], 8)) + zext(v1[7:0][2:2], 8)) + zext(v1[7:0][3:3], 8)) + zext(v1[7"
    ++ bytes ":0][4:4], 8)) + zext(v1[7:0][5:5], 8)) + zext(v1[7:0][6:6], 8)) + zext(v1[7:0][7:7], 8))")
    && lane_is Op.CLZ
    (bytes "ite((v1[7:0][7:7] == 0x1:1), 0x0:8, ite((v1[7:0][6:6] == 0x1:1), 0x1:8, ite((v1[7:0][5:5] == 0x1:1), 0x2:8, ite((v1[7:0][4:4]"
    ++ bytes " == 0x1:1), 0x3:8, ite((v1[7:0][3:3] == 0x1:1), 0x4:8, ite((v1[7:0][2:2] == 0x1:1), 0x5:8, ite((v1[7:0][1:1] == 0x1:1), 0x6:8"
    ++ bytes ", ite((v1[7:0][0:0] == 0x1:1), 0x7:8, 0x8:8))))))))")
    && lane_is Op.CLS
    (bytes "zext(ite(((v1[7:0][7:1] ^ v1[7:0][6:0])[6:6] == 0x1:1), 0x0:7, ite(((v1[7:0][7:1] ^ v1[7:0][6:0])[5:5] == 0x1:1), 0x1:7, ite("
    ++ bytes "((v1[7:0][7:1] ^ v1[7:0][6:0])[4:4] == 0x1:1), 0x2:7, ite(((v1[7:0][7:1] ^ v1[7:0][6:0])[3:3] == 0x1:1), 0x3:7, ite(((v1[7:0]"
    ++ bytes "[7:1] ^ v1[7:0][6:0])[2:2] == 0x1:1), 0x4:7, ite(((v1[7:0][7:1] ^ v1[7:0][6:0])[1:1] == 0x1:1), 0x5:7, ite(((v1[7:0][7:1] ^ v"
    ++ bytes "1[7:0][6:0])[0:0] == 0x1:1), 0x6:7, 0x7:7))))))), 8)")
    && lane_is Op.RBIT
    (bytes "concat(v1[7:0][0:0], concat(v1[7:0][1:1], concat(v1[7:0][2:2], concat(v1[7:0][3:3], concat(v1[7:0][4:4], concat(v1[7:0][5:5],"
    ++ bytes " concat(v1[7:0][6:6], v1[7:0][7:7])))))))")) ≡ true
