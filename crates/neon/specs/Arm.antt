-- What the 67 operations compute, on integers: document 01's table ("Forms"), after the Arm Architecture Reference Manual.
use Rattle.std.specs.Prelude.{Bool, cond, ◌&&◌, ℕ, zero, suc, ◌+◌, ◌-◌, ◌*◌, ◌/◌, ◌%◌, ◌^◌, ltb, eqb, ℤ, pos, negsuc, neg_ℤ, nat_abs, ◌+ℤ◌, ◌-ℤ◌, ◌*ℤ◌}
use Rattle.std.specs.Int.Signed.{lt_z, shr_z}
use Rattle.neon.specs.Op.{Op, Arrangement, bits_of_lane, full}
use Rattle.neon.specs.Form.{Lanes, form, is_narrow, source_bits, lane_count, first_lane, second_lane, by_element}

-- z mod 2 ^ n
unfoldable pub wrap : ℕ → ℤ → ℕ
wrap n (pos a) = a % 2 ^ n
wrap n (negsuc a) = (2 ^ n - 1) - a % 2 ^ n

-- a lane read unsigned, and read signed
abbrev pub U : ℕ → ℤ
U a = pos a

unfoldable pub S : ℕ → ℕ → ℤ
S n a = cond (ltb a (2 ^ (n - 1))) (pos a) (pos a -ℤ pos (2 ^ n))

-- z brought into the range from lo to hi
unfoldable pub clamp_z : ℤ → ℤ → ℤ → ℤ
clamp_z lo hi z = cond (lt_z z lo) lo (cond (lt_z hi z) hi z)

unfoldable pub c_s : ℕ → ℤ → ℤ
c_s n z = clamp_z (neg_ℤ (pos (2 ^ (n - 1)))) (pos (2 ^ (n - 1) - 1)) z

unfoldable pub c_u : ℕ → ℤ → ℤ
c_u n z = clamp_z (pos 0) (pos (2 ^ n - 1)) z

-- z / 2 ^ i, floored; with half a unit added first; and z * 2 ^ i
abbrev pub floor : ℤ → ℕ → ℤ
floor z i = shr_z z (2 ^ i)

abbrev pub round : ℤ → ℕ → ℤ
round z i = floor (z +ℤ pos (2 ^ (i - 1))) i

abbrev pub scale : ℤ → ℕ → ℤ
scale z i = z *ℤ pos (2 ^ i)

-- the amount of a shift by a register: the signed low byte
abbrev pub byte : ℕ → ℤ
byte b = S 8 (b % 2 ^ 8)

-- a shift by k, to the left if k ≥ 0, else to the right by -k
abbrev pub shift_z : ℤ → ℤ → ℤ
shift_z z (pos k) = scale z k
shift_z z (negsuc k) = floor z (suc k)

-- the same, rounding to the right
abbrev pub round_z : ℤ → ℤ → ℤ
round_z z (pos k) = scale z k
round_z z (negsuc k) = round z (suc k)

-- bit j of v
abbrev pub bit_at : ℕ → ℕ → ℕ
bit_at j v = v / 2 ^ j % 2

-- the ones among the k low bits of v; the bits from k - 1 down that are t, up to the first that is not
unfoldable pub ones : ℕ → ℕ → ℕ
ones zero v = 0
ones (suc k) v = ones k v + bit_at k v

unfoldable pub equal_run : ℕ → ℕ → ℕ → ℕ
equal_run t zero v = 0
equal_run t (suc k) v = cond (eqb (bit_at k v) t) (suc (equal_run t k v)) 0

-- lane j of x, of n bits
unfoldable pub lane : ℕ → ℕ → ℕ → ℕ
lane n j x = x / 2 ^ (n * j) % 2 ^ n

-- the number with k lanes of n bits, lane j being f j
unfoldable pub lanes : ℕ → ℕ → (ℕ → ℕ) → ℕ
lanes n zero f = 0
lanes n (suc k) f = f k * 2 ^ (n * k) + lanes n k f

-- twice the product of two lanes of n / 2 bits, clamped to n
abbrev pub doubled : ℕ → ℕ → ℕ → ℤ
doubled n a b = c_s n (S (n / 2) a *ℤ S (n / 2) b *ℤ pos 2)

-- a lane of the result, of n bits: i is the immediate, d the old lane, a and b the source lanes
unfoldable pub arm_lane : Op → (n i d a b : ℕ) → ℕ
arm_lane Op.SHL n i d a b = wrap n (scale (U a) i)
arm_lane Op.SQSHLI n i d a b = wrap n (c_s n (scale (S n a) i))
arm_lane Op.UQSHLI n i d a b = wrap n (c_u n (scale (U a) i))
arm_lane Op.SQSHLU n i d a b = wrap n (c_u n (scale (S n a) i))
arm_lane Op.SSHR n i d a b = wrap n (floor (S n a) i)
arm_lane Op.USHR n i d a b = wrap n (floor (U a) i)
arm_lane Op.SRSHR n i d a b = wrap n (round (S n a) i)
arm_lane Op.URSHR n i d a b = wrap n (round (U a) i)
arm_lane Op.SSHL n i d a b = wrap n (shift_z (S n a) (byte b))
arm_lane Op.USHL n i d a b = wrap n (shift_z (U a) (byte b))
arm_lane Op.SRSHL n i d a b = wrap n (round_z (S n a) (byte b))
arm_lane Op.URSHL n i d a b = wrap n (round_z (U a) (byte b))
arm_lane Op.SQSHL n i d a b = wrap n (c_s n (shift_z (S n a) (byte b)))
arm_lane Op.UQSHL n i d a b = wrap n (c_u n (shift_z (U a) (byte b)))
arm_lane Op.SQRSHL n i d a b = wrap n (c_s n (round_z (S n a) (byte b)))
arm_lane Op.UQRSHL n i d a b = wrap n (c_u n (round_z (U a) (byte b)))
arm_lane Op.SLI n i d a b = wrap n (scale (U a) i) + d % 2 ^ i
arm_lane Op.SRI n i d a b = d / 2 ^ (n - i) * 2 ^ (n - i) + wrap n (floor (U a) i)
arm_lane Op.SQADD n i d a b = wrap n (c_s n (S n a +ℤ S n b))
arm_lane Op.UQADD n i d a b = wrap n (c_u n (U a +ℤ U b))
arm_lane Op.SQSUB n i d a b = wrap n (c_s n (S n a -ℤ S n b))
arm_lane Op.UQSUB n i d a b = wrap n (c_u n (U a -ℤ U b))
arm_lane Op.SHADD n i d a b = wrap n (floor (S n a +ℤ S n b) 1)
arm_lane Op.UHADD n i d a b = wrap n (floor (U a +ℤ U b) 1)
arm_lane Op.SRHADD n i d a b = wrap n (round (S n a +ℤ S n b) 1)
arm_lane Op.URHADD n i d a b = wrap n (round (U a +ℤ U b) 1)
arm_lane Op.SQXTN n i d a b = wrap n (c_s n (S (n * 2) a))
arm_lane Op.UQXTN n i d a b = wrap n (c_u n (U a))
arm_lane Op.SQXTUN n i d a b = wrap n (c_u n (S (n * 2) a))
arm_lane Op.SHRN n i d a b = wrap n (floor (U a) i)
arm_lane Op.RSHRN n i d a b = wrap n (round (U a) i)
arm_lane Op.SQSHRN n i d a b = wrap n (c_s n (floor (S (n * 2) a) i))
arm_lane Op.SQRSHRN n i d a b = wrap n (c_s n (round (S (n * 2) a) i))
arm_lane Op.UQSHRN n i d a b = wrap n (c_u n (floor (U a) i))
arm_lane Op.UQRSHRN n i d a b = wrap n (c_u n (round (U a) i))
arm_lane Op.SQSHRUN n i d a b = wrap n (c_u n (floor (S (n * 2) a) i))
arm_lane Op.SQRSHRUN n i d a b = wrap n (c_u n (round (S (n * 2) a) i))
arm_lane Op.SQABS n i d a b = wrap n (c_s n (pos (nat_abs (S n a))))
arm_lane Op.SQNEG n i d a b = wrap n (c_s n (neg_ℤ (S n a)))
arm_lane Op.SQDMULH n i d a b = wrap n (c_s n (floor (S n a *ℤ S n b *ℤ pos 2) n))
arm_lane Op.SQRDMULH n i d a b = wrap n (c_s n (round (S n a *ℤ S n b *ℤ pos 2) n))
arm_lane Op.SQDMULL n i d a b = wrap n (doubled n a b)
arm_lane Op.SQDMLAL n i d a b = wrap n (c_s n (S n d +ℤ doubled n a b))
arm_lane Op.SQDMLSL n i d a b = wrap n (c_s n (S n d -ℤ doubled n a b))
arm_lane Op.SQDMULL2 n i d a b = wrap n (doubled n a b)
arm_lane Op.SQDMLAL2 n i d a b = wrap n (c_s n (S n d +ℤ doubled n a b))
arm_lane Op.SQDMLSL2 n i d a b = wrap n (c_s n (S n d -ℤ doubled n a b))
arm_lane Op.SQDMULLE n i d a b = wrap n (doubled n a b)
arm_lane Op.SQDMLALE n i d a b = wrap n (c_s n (S n d +ℤ doubled n a b))
arm_lane Op.SQDMLSLE n i d a b = wrap n (c_s n (S n d -ℤ doubled n a b))
arm_lane Op.SQDMULL2E n i d a b = wrap n (doubled n a b)
arm_lane Op.SQDMLAL2E n i d a b = wrap n (c_s n (S n d +ℤ doubled n a b))
arm_lane Op.SQDMLSL2E n i d a b = wrap n (c_s n (S n d -ℤ doubled n a b))
arm_lane Op.SUQADD n i d a b = wrap n (c_s n (S n d +ℤ U a))
arm_lane Op.USQADD n i d a b = wrap n (c_u n (U d +ℤ S n a))
arm_lane Op.SABD n i d a b = wrap n (pos (nat_abs (S n a -ℤ S n b)))
arm_lane Op.UABD n i d a b = wrap n (pos (nat_abs (U a -ℤ U b)))
arm_lane Op.SABA n i d a b = wrap n (U d +ℤ pos (nat_abs (S n a -ℤ S n b)))
arm_lane Op.UABA n i d a b = wrap n (U d +ℤ pos (nat_abs (U a -ℤ U b)))
arm_lane Op.CNT n i d a b = ones n a
arm_lane Op.CLZ n i d a b = equal_run 0 n a
arm_lane Op.CLS n i d a b = equal_run (bit_at (n - 1) a) (n - 1) a
arm_lane Op.RBIT n i d a b = lanes 1 n (λ j. bit_at (n - 1 - j) a)
arm_lane Op.ADDHN n i d a b = wrap (n * 2) (U a +ℤ U b) / 2 ^ n
arm_lane Op.RADDHN n i d a b = wrap (n * 2) (U a +ℤ U b +ℤ pos (2 ^ (n - 1))) / 2 ^ n
arm_lane Op.SUBHN n i d a b = wrap (n * 2) (U a -ℤ U b) / 2 ^ n
arm_lane Op.RSUBHN n i d a b = wrap (n * 2) (U a -ℤ U b +ℤ pos (2 ^ (n - 1))) / 2 ^ n

-- lane j of the result
unfoldable pub arm_at : Op → Arrangement → (i d a b j : ℕ) → ℕ
arm_at o v i d a b j =
    let n = bits_of_lane v in
    let l = (form o).lanes in
    arm_lane o n i (lane n j d) (lane (source_bits l n) (first_lane l (lane_count o v) j) a) (lane (source_bits l n) (second_lane l (by_element o) (lane_count o v) i j) b)

-- a narrowing "2" form has the new 64 bits above the low 64 of d
abbrev pub place_bits : Lanes → Bool → ℕ → ℕ → ℕ
place_bits l whole new d = cond (is_narrow l && whole) (new * 2 ^ 64 + d % 2 ^ 64) new

-- the place of lane j of the k new lanes
abbrev pub place_lane : Lanes → Bool → (k j : ℕ) → ℕ
place_lane l whole k j = cond (is_narrow l && whole) (k + j) j

-- the result of an instruction on the registers d, a, b, as they are read
unfoldable pub arm_result : Op → Arrangement → (i d a b : ℕ) → ℕ
arm_result o v i d a b = place_bits (form o).lanes (full v) (lanes (bits_of_lane v) (lane_count o v) (arm_at o v i d a b)) d
