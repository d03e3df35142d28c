-- Lengths that are kept up to a bound: of the first nodes, of one more, and of the registers. Assumes nothing.
use mathlib.Core.List.{List}
use mathlib.Core.Logic.{⊎_elim}
use mathlib.Core.Path.{◌≡◌, refl, sym, subst}
use Prim.Native.Nat.{ℕ, ◌+◌, ◌≤◌, ◌<◌, min}
use native.Mathlib.Omega.{arith}
use native.Mathlib.Nat.{eq-or-lt_of_le}
use lib.ListN.{length, get_or, set}
use lib.Seq.{get_or-set_same, get_or-set_other}
use Rattle.text_digits.proofs.Lengths.{register-short}
use Rattle.text_parts.specs.Text.{text, Ready}
use Rattle.text_parts.proofs.Operands.{ready-less}
use Rattle.text_length.specs.Known.{Known, Kept, Registers, RegisterLengths}
use Rattle.text_length.proofs.Sizes.{size-var}

-- the length kept of an earlier node
pub kept : {ws lengths : List ℕ} {b n m : ℕ} → Known ws b lengths n → (n ≤ length lengths) × (b ≤ 4294967296) → m < n → Kept lengths m
kept {m = m} k h l = record { below = omega (arith, h, l); small = omega (arith, h, k.at m l) }

-- none is known at first, and one more once it is stored
pub known-none : {ws lengths : List ℕ} {b : ℕ} → Known ws b lengths 0
known-none = record { at = λ m l. absurd (omega (arith, l)) }

-- what holds of the entries before j, and of the one that is stored there, holds of those before j + 1
pub stored : (P : ℕ → ℕ → Type 0) (lengths : List ℕ) {j x : ℕ} → ((m : ℕ) → m < j → P m (get_or lengths m 0)) → j < length lengths → P j x → (m : ℕ) → m < j + 1
    → P m (get_or (set lengths j x) m 0)
stored P lengths {j} {x} f l q m h =
    ⊎_elim (λ e. subst (λ (i : ℕ). P i (get_or (set lengths j x) i 0)) (sym e) (subst (P j) (sym (get_or-set_same lengths j x 0 l)) q))
    (λ i. subst (P m) (sym (get_or-set_other lengths j m x 0 (λ z. omega (arith, z, i)))) (f m i))
    (eq-or-lt_of_le (omega (arith, h)))

pub known_more : {ws lengths : List ℕ} {b j x : ℕ} → Known ws b lengths j → j < length lengths → x ≡ min (length (text ws j)) b → Known ws b (set lengths j x) (j + 1)
known_more {ws} {lengths} {b} k l e = record { at = stored (λ m x. x ≡ min (length (text ws m)) b) lengths k.at l e }

-- nodes up to n keep the rules
pub ready-to : {ws : List ℕ} {n m : ℕ} → m ≤ n → Ready ws n → Ready ws m
ready-to {ws} {n} l r = ⊎_elim (λ e. subst (λ (i : ℕ). Ready ws i) (sym e) r) (λ i. ready-less i r) (eq-or-lt_of_le l)

pub registers-known : {ws lengths : List ℕ} {b n : ℕ} → Ready ws n → 32 ≤ n → Registers ws → RegisterLengths lengths → 4 ≤ b → Known ws b lengths 32
registers-known {ws} {lengths} {b} {n} y h v e l = record { at = λ r i. go r i }
  where
    go : (r : ℕ) → r < 32 → get_or lengths r 0 ≡ min (length (text ws r)) b
    go r i =
        let q = v.at r i in
        let z = size-var ws r (ready-less (omega (arith, i, h)) y) 1 (sym q.0) refl in
        omega (arith, l, e.at r i, register-short r i, rw q.1 at z)
