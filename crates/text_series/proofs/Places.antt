-- The elements at given places, in lists of one length that come one after the other. Assumes nothing.
use mathlib.Core.Path.{◌≡◌, refl, sym, ap, ap₂, ◌∙◌, subst}
use mathlib.Core.Logic.{⊎_elim}
use mathlib.Core.List.{List, [], ◌∷◌, ◌++◌}
use Prim.Native.Nat.{ℕ, zero, suc, ◌+◌, ◌*◌, ◌≤◌, ◌<◌}
use native.Mathlib.Nat.{eq-or-lt_of_le, le_of_suc-le-suc, not-suc-le-zero, mul-zero, mul-suc, mul-le-mul_left}
use native.Mathlib.Numerals.{add-one}
use native.Mathlib.Omega.{arith}
use lib.ListN.{length, get_or, take, drop, length-append, get_or-append}
use lib.Seq.{drop-cons, take-add, get_or-append-add}
use Rattle.text_series.specs.Series.{up_to}

pub rows_eq : {A : Type 0} (k : ℕ) (f g : ℕ → List A) → ((j : ℕ) → j < k → f j ≡ g j) → up_to k f ≡ up_to k g
unfolding up_to
rows_eq zero f g h = refl
rows_eq (suc k) f g h = ap₂ (λ (a b : List _). a ++ b) (rows_eq k f g (λ j l. h j (omega arith))) (h k (omega arith))

module _ (n : ℕ) (g : ℕ → List ℕ) where
  pub rows-length : (k : ℕ) → ((j : ℕ) → j < k → length (g j) ≡ n) → length (up_to k g) ≡ n * k
  unfolding up_to
  rows-length zero h = omega arith
  rows-length (suc k) h = length-append (up_to k g) (g k) ∙ ap₂ ◌+◌ (rows-length k (λ j l. h j (omega arith))) (h k (omega arith)) ∙ sym (mul-suc n k)

  -- entry i of list j
  pub row-entry : (k j i : ℕ) → ((j : ℕ) → j < k → length (g j) ≡ n) → j < k → i < n → get_or (up_to k g) (n * j + i) 0 ≡ get_or (g j) i 0
  unfolding up_to
  row-entry zero j i h l m = absurd (not-suc-le-zero l)
  row-entry (suc k) j i h l m =
      ⊎_elim
      (λ e. subst (λ (x : ℕ). get_or (up_to k g ++ g k) (n * x + i) 0 ≡ get_or (g x) i 0) (sym e)
      (ap (λ (x : ℕ). get_or (up_to k g ++ g k) (x + i) 0) (sym here) ∙ get_or-append-add (up_to k g) (g k) i 0))
      (λ s. get_or-append (up_to k g) (g k) 0 (n * j + i) (omega (arith, here, within s)) ∙ row-entry k j i (λ j l. h j (omega arith)) s m)
      (eq-or-lt_of_le (le_of_suc-le-suc l))
    where
      here : length (up_to k g) ≡ n * k
      here = rows-length k (λ j l. h j (omega arith))

      within : j < k → n * j + n ≤ n * k
      within s = omega (arith, mul-le-mul_left n s, mul-suc n j)

-- ---- a list cut in lists of one length

pub cut-rows : (n : ℕ) (l : List ℕ) (k : ℕ) → up_to k (λ j. take n (drop (n * j) l)) ≡ take (n * k) l
unfolding up_to
cut-rows n l zero = ap (λ (x : ℕ). take x l) (sym (mul-zero n))
cut-rows n l (suc k) =
    ap (λ (s : List ℕ). s ++ take n (drop (n * k) l)) (cut-rows n l k) ∙ sym (take-add (n * k) n l) ∙ ap (λ (x : ℕ). take x l) (sym (mul-suc n k))

-- n entries from `at` on, one by one
abbrev pub entries : List ℕ → (at n : ℕ) → List ℕ
entries l at zero = []
entries l at (suc n) = get_or l at 0 ∷ entries l (at + 1) n

pub entries-are : (l : List ℕ) (at n : ℕ) → at + n ≤ length l → take n (drop at l) ≡ entries l at n
entries-are l at zero h = refl
entries-are l at (suc n) h =
    ap (take (suc n)) (drop-cons l at 0 (omega arith))
    ∙ ap (λ (i : ℕ). get_or l at 0 ∷ take n (drop i l)) (sym (add-one at))
    ∙ ap (λ (s : List ℕ). get_or l at 0 ∷ s) (entries-are l (at + 1) n (omega arith))
