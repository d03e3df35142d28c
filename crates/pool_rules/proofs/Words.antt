-- Two words against a power of two. Assumes nothing.
use Prim.Native.Nat.{ℕ, ◌+◌, ◌-◌, ◌*◌, ◌^◌, ◌%◌, ◌≤◌, ◌<◌}
use mathlib.Core.Path.{◌≡◌, refl, sym, ◌∙◌}
use mathlib.Core.Bool.{Bool, true, false}
use native.Mathlib.Omega.{arith}
use native.Mathlib.Nat.{mul_comm, add_comm, lt_of_lt_of_le, le_trans, mul-le-mul_left, le-add_left}
use lib.Dec.{ltb}
use lib.Arith.{digits_lt}
use lib.Pow.{pow_mono}
use borrow.Author.Tests.{lt-ltb, le-ltb, ltb-true, ltb-false}
use Rattle.facts.proofs.Numbers.{shifted, high-power}

-- two words below 2^64 * H
two : (x y H : ℕ) → x < 18446744073709551616 → y < H → x + 18446744073709551616 * y < 18446744073709551616 * H
two x y H b l = rw (add_comm x (18446744073709551616 * y), mul_comm 18446744073709551616 y, mul_comm 18446744073709551616 H) (digits_lt l b)

pub always : (x y bits : ℕ) → x < 2 ^ 64 → y < 2 ^ 64 → 128 ≤ bits → true ≡ ltb (x + 18446744073709551616 * y) (2 ^ bits)
always x y bits b c l = sym (lt-ltb _ _ (lt_of_lt_of_le (two x y (2 ^ 64) b c) (pow_mono {i = 128} {j = bits} l)))

pub upper : (x y bits : ℕ) → x < 2 ^ 64 → 64 ≤ bits → bits < 128 → ltb y ((1 * 2 ^ (bits - 64)) % 18446744073709551616) ≡ ltb (x + 18446744073709551616 * y) (2 ^ bits)
upper x y bits b l m = rw (shifted (bits - 64) (omega arith), high-power bits l) (go (ltb y (2 ^ (bits - 64))) refl)
  where
    go : (t : Bool) → ltb y (2 ^ (bits - 64)) ≡ t → ltb y (2 ^ (bits - 64)) ≡ ltb (x + 18446744073709551616 * y) (18446744073709551616 * 2 ^ (bits - 64))
    go true e = e ∙ sym (lt-ltb _ _ (two x y (2 ^ (bits - 64)) b (ltb-true _ _ e)))
    go false e =
        let m : 18446744073709551616 * 2 ^ (bits - 64) ≤ 18446744073709551616 * y = mul-le-mul_left 18446744073709551616 (ltb-false _ _ e) in
        e ∙ sym (le-ltb _ _ (le_trans m (le-add_left (18446744073709551616 * y) x)))

pub lower : (x y bits : ℕ) → y ≡ 0 → bits < 64 → ltb x ((1 * 2 ^ bits) % 18446744073709551616) ≡ ltb (x + 18446744073709551616 * y) (2 ^ bits)
lower x y bits e l = let z : x + 18446744073709551616 * y ≡ x = omega arith in rw (shifted bits l, z)

pub over : (x y bits : ℕ) → (y ≡ 0 → ⊥) → bits < 64 → false ≡ ltb (x + 18446744073709551616 * y) (2 ^ bits)
over x y bits e l =
    let m : 18446744073709551616 ≤ x + 18446744073709551616 * y = omega arith in
    sym (le-ltb _ _ (le_trans (pow_mono {i = bits} {j = 64} (omega arith)) m))
