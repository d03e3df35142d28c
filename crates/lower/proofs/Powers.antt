-- A difference of powers of two in two words. Assumes nothing.
use Prim.Native.Nat.{ℕ, ◌+◌, ◌-◌, ◌*◌, ◌≤◌, ◌<◌}
use mathlib.Core.Path.{◌≡◌}
use native.Mathlib.Omega.{arith}

-- -2^b at a width above 64: the low word wraps, the high word is all ones. X stands for the high word times 2^64
pub minus-high : (W B X : ℕ) → 1 ≤ B → B < 18446744073709551616 → X + 18446744073709551616 ≡ W → (18446744073709551615 - (B - 1)) + X ≡ W - B
minus-high W B X l h e = omega arith

pub high-less : (H : ℕ) → 1 ≤ H → 18446744073709551616 * (H - 1) + 18446744073709551616 ≡ 18446744073709551616 * H
high-less H l = omega arith
