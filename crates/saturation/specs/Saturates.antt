-- Which lanes saturate (document 02, S-12), after the Arm Architecture Reference Manual: the second result of its SatQ, by which
-- FPSR.QC is set. In the accumulating operations either clamp counts.
use Rattle.std.specs.Prelude.{Bool, false, ◌||◌, List, [], ◌∷◌, ℕ, zero, suc, ◌-◌, ◌*◌, ◌/◌, ◌^◌, ℤ, pos, neg_ℤ, nat_abs, ◌+ℤ◌, ◌-ℤ◌, ◌*ℤ◌}
use Rattle.std.specs.Int.Signed.{lt_z}
use Rattle.neon.specs.declared.Instruction.{Instruction}
use Rattle.neon.specs.Op.{Op, Arrangement, op_at, arrangement_at, bits_of_lane, full}
use Rattle.neon.specs.Form.{form, first_full, second_full, by_element, source_bits, lane_count, first_lane, second_lane}
use Rattle.neon.specs.Arm.{U, S, floor, round, scale, byte, shift_z, round_z, lane, doubled}
use Rattle.neon.specs.Run.{read_bits, arm_step}

-- z lies outside the range from lo to hi: the clamp alters it
unfoldable pub outside : ℤ → ℤ → ℤ → Bool
outside lo hi z = lt_z z lo || lt_z hi z

-- outside the signed, the unsigned numbers of n bits
unfoldable pub beyond_s : ℕ → ℤ → Bool
beyond_s n z = outside (neg_ℤ (pos (2 ^ (n - 1)))) (pos (2 ^ (n - 1) - 1)) z

unfoldable pub beyond_u : ℕ → ℤ → Bool
beyond_u n z = outside (pos 0) (pos (2 ^ n - 1)) z

-- the product of SQDMULL and its like, before the first clamp
abbrev pub twice : ℕ → ℕ → ℕ → ℤ
twice n a b = S (n / 2) a *ℤ S (n / 2) b *ℤ pos 2

-- whether a lane of n bits saturates: what `arm_lane` clamps is out of range
unfoldable pub saturates_lane : Op → (n i d a b : ℕ) → Bool
saturates_lane Op.SQSHLI n i d a b = beyond_s n (scale (S n a) i)
saturates_lane Op.UQSHLI n i d a b = beyond_u n (scale (U a) i)
saturates_lane Op.SQSHLU n i d a b = beyond_u n (scale (S n a) i)
saturates_lane Op.SQSHL n i d a b = beyond_s n (shift_z (S n a) (byte b))
saturates_lane Op.UQSHL n i d a b = beyond_u n (shift_z (U a) (byte b))
saturates_lane Op.SQRSHL n i d a b = beyond_s n (round_z (S n a) (byte b))
saturates_lane Op.UQRSHL n i d a b = beyond_u n (round_z (U a) (byte b))
saturates_lane Op.SQADD n i d a b = beyond_s n (S n a +ℤ S n b)
saturates_lane Op.UQADD n i d a b = beyond_u n (U a +ℤ U b)
saturates_lane Op.SQSUB n i d a b = beyond_s n (S n a -ℤ S n b)
saturates_lane Op.UQSUB n i d a b = beyond_u n (U a -ℤ U b)
saturates_lane Op.SQXTN n i d a b = beyond_s n (S (n * 2) a)
saturates_lane Op.UQXTN n i d a b = beyond_u n (U a)
saturates_lane Op.SQXTUN n i d a b = beyond_u n (S (n * 2) a)
saturates_lane Op.SQSHRN n i d a b = beyond_s n (floor (S (n * 2) a) i)
saturates_lane Op.SQRSHRN n i d a b = beyond_s n (round (S (n * 2) a) i)
saturates_lane Op.UQSHRN n i d a b = beyond_u n (floor (U a) i)
saturates_lane Op.UQRSHRN n i d a b = beyond_u n (round (U a) i)
saturates_lane Op.SQSHRUN n i d a b = beyond_u n (floor (S (n * 2) a) i)
saturates_lane Op.SQRSHRUN n i d a b = beyond_u n (round (S (n * 2) a) i)
saturates_lane Op.SQABS n i d a b = beyond_s n (pos (nat_abs (S n a)))
saturates_lane Op.SQNEG n i d a b = beyond_s n (neg_ℤ (S n a))
saturates_lane Op.SQDMULH n i d a b = beyond_s n (floor (S n a *ℤ S n b *ℤ pos 2) n)
saturates_lane Op.SQRDMULH n i d a b = beyond_s n (round (S n a *ℤ S n b *ℤ pos 2) n)
saturates_lane Op.SQDMULL n i d a b = beyond_s n (twice n a b)
saturates_lane Op.SQDMLAL n i d a b = beyond_s n (twice n a b) || beyond_s n (S n d +ℤ doubled n a b)
saturates_lane Op.SQDMLSL n i d a b = beyond_s n (twice n a b) || beyond_s n (S n d -ℤ doubled n a b)
saturates_lane Op.SQDMULL2 n i d a b = beyond_s n (twice n a b)
saturates_lane Op.SQDMLAL2 n i d a b = beyond_s n (twice n a b) || beyond_s n (S n d +ℤ doubled n a b)
saturates_lane Op.SQDMLSL2 n i d a b = beyond_s n (twice n a b) || beyond_s n (S n d -ℤ doubled n a b)
saturates_lane Op.SQDMULLE n i d a b = beyond_s n (twice n a b)
saturates_lane Op.SQDMLALE n i d a b = beyond_s n (twice n a b) || beyond_s n (S n d +ℤ doubled n a b)
saturates_lane Op.SQDMLSLE n i d a b = beyond_s n (twice n a b) || beyond_s n (S n d -ℤ doubled n a b)
saturates_lane Op.SQDMULL2E n i d a b = beyond_s n (twice n a b)
saturates_lane Op.SQDMLAL2E n i d a b = beyond_s n (twice n a b) || beyond_s n (S n d +ℤ doubled n a b)
saturates_lane Op.SQDMLSL2E n i d a b = beyond_s n (twice n a b) || beyond_s n (S n d -ℤ doubled n a b)
saturates_lane Op.SUQADD n i d a b = beyond_s n (S n d +ℤ U a)
saturates_lane Op.USQADD n i d a b = beyond_u n (U d +ℤ S n a)
saturates_lane Op.SHL n i d a b = false
saturates_lane Op.SSHR n i d a b = false
saturates_lane Op.USHR n i d a b = false
saturates_lane Op.SRSHR n i d a b = false
saturates_lane Op.URSHR n i d a b = false
saturates_lane Op.SSHL n i d a b = false
saturates_lane Op.USHL n i d a b = false
saturates_lane Op.SRSHL n i d a b = false
saturates_lane Op.URSHL n i d a b = false
saturates_lane Op.SLI n i d a b = false
saturates_lane Op.SRI n i d a b = false
saturates_lane Op.SHADD n i d a b = false
saturates_lane Op.UHADD n i d a b = false
saturates_lane Op.SRHADD n i d a b = false
saturates_lane Op.URHADD n i d a b = false
saturates_lane Op.SHRN n i d a b = false
saturates_lane Op.RSHRN n i d a b = false
saturates_lane Op.SABD n i d a b = false
saturates_lane Op.UABD n i d a b = false
saturates_lane Op.SABA n i d a b = false
saturates_lane Op.UABA n i d a b = false
saturates_lane Op.CNT n i d a b = false
saturates_lane Op.CLZ n i d a b = false
saturates_lane Op.CLS n i d a b = false
saturates_lane Op.RBIT n i d a b = false
saturates_lane Op.ADDHN n i d a b = false
saturates_lane Op.RADDHN n i d a b = false
saturates_lane Op.SUBHN n i d a b = false
saturates_lane Op.RSUBHN n i d a b = false

-- lane j of an instruction
unfoldable pub saturates_at : Op → Arrangement → (i d a b j : ℕ) → Bool
saturates_at o v i d a b j =
    let n = bits_of_lane v in
    let l = (form o).lanes in
    saturates_lane o n i (lane n j d) (lane (source_bits l n) (first_lane l (lane_count o v) j) a) (lane (source_bits l n) (second_lane l (by_element o) (lane_count o v) i j) b)

-- some of the k first
unfoldable pub some : ℕ → (ℕ → Bool) → Bool
some zero f = false
some (suc k) f = some k f || f k

unfoldable pub saturates : Op → Arrangement → (i d a b : ℕ) → Bool
saturates o v i d a b = some (lane_count o v) (saturates_at o v i d a b)

-- a record, on the registers before it
unfoldable pub saturates_step : Instruction → (ℕ → ℕ) → Bool
saturates_step c regs =
    let o = op_at c.operation in
    let v = arrangement_at c.arrangement in
    let l = (form o).lanes in
    saturates o v c.i (read_bits (full v) (regs c.d)) (read_bits (first_full l (full v)) (regs c.n))
    (read_bits (second_full l (by_element o) (full v)) (regs c.m))

-- a run, as FPSR.QC would record from a cleared flag
unfoldable pub saturates_run : List Instruction → (ℕ → ℕ) → Bool
saturates_run [] regs = false
saturates_run (c ∷ cs) regs = saturates_step c regs || saturates_run cs (arm_step c regs)
