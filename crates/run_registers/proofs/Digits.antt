-- Digits read and written one by one. Assumes nothing.
use mathlib.Core.Path.{◌≡◌, refl, sym, ◌∙◌}
use mathlib.Core.Logic.{⊎_elim}
use mathlib.Core.Bool.{Bool, true, false, ◌&&◌, ◌||◌}
use mathlib.Core.List.{List, [], ◌∷◌, ◌++◌, append_assoc, append-nil}
use Prim.Native.Nat.{ℕ, zero, suc, ◌+◌, ◌*◌, ◌-◌, ◌/◌, ◌%◌, ◌≤◌, ◌<◌}
use native.Mathlib.Nat.{add-zero, add-suc, eq-or-lt_of_le, le_of_suc-le-suc, mul_assoc}
use native.Mathlib.Numerals.{add-one}
use native.Mathlib.Omega.{arith}
use lib.ListN.{length, get_or, set, length-append}
use Rattle.terms.specs.Display.{digit}
use Rattle.text_digits.specs.Writing.{Wrote}
use Rattle.text_digits.proofs.Laws.{wrote_then, wrote-byte, wrote_as}
use Rattle.wide.specs.Number.{words}
use Rattle.std.specs.Char.{is_ascii_hexdigit}
use Rattle.run_registers.specs.Digits.{between, is_hex, hex_value, hex_at, all_hex, hex_digits}

-- ---- reading

-- 16 to the k
pub top : ℕ → ℕ
top zero = 1
top (suc k) = 16 * top k

top-le : (k j : ℕ) → j ≤ k → top j ≤ top k
unfolding top
top-le zero j h = let e : j ≡ 0 = omega arith in rw e (omega arith)
top-le (suc k) j h = ⊎_elim (λ e. rw e (omega arith)) (λ l. omega (arith, top-le k j (le_of_suc-le-suc l))) (eq-or-lt_of_le h)

pub top-word : (j : ℕ) → j < 16 → top j ≤ 1152921504606846976
unfolding top
top-word j h = top-le 15 j (omega arith)

pub top-next : (j w d : ℕ) → w < top j → d < 16 → 16 * w + d < top (j + 1)
unfolding top
top-next j w d h l = rw add-one (omega arith)

pub hex-next : (bs : List ℕ) (at j : ℕ) {w d : ℕ} → w ≡ hex_at bs at j → d ≡ hex_value (get_or bs (at + j) 0) → 16 * w + d ≡ hex_at bs at (j + 1)
unfolding hex_at
hex-next bs at j e f = rw (add-one, e, f)

pub hex-none : (bs : List ℕ) (at : ℕ) → hex_at bs at 0 ≡ 0
unfolding hex_at
hex-none bs at = refl

pub top-first : 0 < top 0
unfolding top
top-first = omega arith

pub all_none : (bs : List ℕ) (at : ℕ) → all_hex bs at 0 ≡ true
unfolding all_hex
all_none bs at = refl

pub all-next : (bs : List ℕ) (at j : ℕ) {a b : Bool} → a ≡ all_hex bs at j → b ≡ is_hex (get_or bs (at + j) 0) → (a && b) ≡ all_hex bs at (j + 1)
unfolding all_hex
all-next bs at j e f = rw (add-one, e, f)

-- the library's test, with the capital letters first
pub hex-same : (b : ℕ) → is_ascii_hexdigit b ≡ is_hex b
hex-same b = go (between 48 57 b) (between 97 102 b) (between 65 70 b)
  where
    go : (d s c : Bool) → ((d || c) || s) ≡ (d || s || c)
    go true s c = refl
    go false true true = refl
    go false true false = refl
    go false false true = refl
    go false false false = refl

-- ---- writing

pub digits-length : (k x : ℕ) → length (hex_digits k x) ≡ k
unfolding hex_digits
digits-length zero x = refl
digits-length (suc k) x = length-append (hex_digits k (x / 16)) (digit (x % 16) ∷ []) ∙ omega (arith, digits-length k (x / 16))

pub none : (x : ℕ) → hex_digits 0 x ≡ []
unfolding hex_digits
none x = refl

pub last : (k x : ℕ) → 0 < k → hex_digits k x ≡ hex_digits (k - 1) (x / 16) ++ (digit (x % 16) ∷ [])
unfolding hex_digits
last zero x h = absurd (omega arith)
last (suc k) x h = let e : suc k - 1 ≡ k = omega arith in rw e

-- the digits of two numbers, one above the other
split : (k m low high : ℕ) → low < top m → hex_digits (k + m) (low + top m * high) ≡ hex_digits k high ++ hex_digits m low
unfolding hex_digits top
split k zero low high h =
    let e : low + 1 * high ≡ high = omega arith in
    rw (add-zero, e) (sym (append-nil (hex_digits k high)))
split k (suc m) low high h =
    let p = mul_assoc 16 (top m) high in
    let d : (low + 16 * top m * high) / 16 ≡ low / 16 + top m * high = omega (arith, p) in
    let r : (low + 16 * top m * high) % 16 ≡ low % 16 = omega (arith, p) in
    rw (add-suc, hex_digits, d, r, split k m (low / 16) high (omega arith)) (append_assoc (hex_digits k high) (hex_digits m (low / 16)) (digit (low % 16) ∷ []))

pub two-words : (low high : ℕ) → low < 18446744073709551616 → hex_digits 32 (words low high 0) ≡ hex_digits 16 high ++ hex_digits 16 low
unfolding words top
two-words low high h =
    let e : low + 18446744073709551616 * (high + 18446744073709551616 * 0) ≡ low + 18446744073709551616 * high = omega arith in
    rw e (split 16 16 low high h)

pub wrote-last : (k x d : ℕ) {l m : List ℕ} {i j : ℕ} → 0 < k → Wrote l i (hex_digits (k - 1) (x / 16)) j m → d ≡ digit (x % 16)
    → Wrote l i (hex_digits k x) (j + 1) (set m j d)
wrote-last k x d {m = m} {j = j} h w e = wrote_as (last k x h) (wrote_then w (rw (← e) (wrote-byte m j d)))
