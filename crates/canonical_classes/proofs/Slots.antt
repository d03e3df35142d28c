-- The slots as one list: both tables, then two slots per node. Assumes nothing.
use mathlib.Core.Path.{◌≡◌, refl, ap, ◌∙◌}
use mathlib.Core.Bool.{Bool, true, false}
use mathlib.Core.List.{List, [], ◌∷◌, ◌++◌}
use Prim.Native.Nat.{ℕ, ◌+◌, ◌-◌, ◌≤◌, ◌<◌}
use native.Mathlib.Omega.{arith}
use native.Mathlib.Nat.{zero-add, suc-add}
use lib.Dec.{ltb}
use lib.ListN.{length, get_or, set, length-append, get_or-append}
use lib.Seq.{get_or-append-add}
use borrow.Author.Tests.{ltb-true, ltb-false}
use Rattle.canonical_classes.specs.Class.{Empty, Laid, slots_of}

-- past the front
at_back : (a b : List ℕ) (i : ℕ) → length a ≤ i → get_or (a ++ b) i 0 ≡ get_or b (i - length a) 0
at_back a b i h = let e : i ≡ length a + (i - length a) = omega arith in ap (λ (k : ℕ). get_or (a ++ b) k 0) e ∙ get_or-append-add a b (i - length a) 0

set-append-add : (a b : List ℕ) (i x : ℕ) → set (a ++ b) (length a + i) x ≡ a ++ set b i x
set-append-add [] b i x = ap (λ (k : ℕ). set b k x) (zero-add i)
set-append-add (y ∷ a) b i x = ap (λ (k : ℕ). set (y ∷ (a ++ b)) k x) (suc-add (length a) i) ∙ ap (λ (l : List ℕ). y ∷ l) (set-append-add a b i x)

set_back : (a b : List ℕ) (i x : ℕ) → length a ≤ i → set (a ++ b) i x ≡ a ++ set b (i - length a) x
set_back a b i x h = let e : i ≡ length a + (i - length a) = omega arith in ap (λ (k : ℕ). set (a ++ b) k x) e ∙ set-append-add a b (i - length a) x

module _ (first second ways : List ℕ) (L : Laid first second ways) where
  pub first-at : (s : ℕ) → s < 65536 → get_or (slots_of first second ways) s 0 ≡ get_or first s 0
  first-at s h = get_or-append first (second ++ ways) 0 s (omega (arith, L.first_long))

  pub second_at : (s : ℕ) → 65536 ≤ s → s < 131072 → get_or (slots_of first second ways) s 0 ≡ get_or second (s - 65536) 0
  second_at s l h =
      at_back first (second ++ ways) s (omega (arith, L.first_long))
      ∙ ap (λ (k : ℕ). get_or (second ++ ways) (s - k) 0) L.first_long
      ∙ get_or-append second ways 0 (s - 65536) (omega (arith, L.second_long))

  pub way_at : (s : ℕ) → 131072 ≤ s → get_or (slots_of first second ways) s 0 ≡ get_or ways (s - 131072) 0
  way_at s l =
      let e : s - 65536 - length second ≡ s - 131072 = omega (arith, L.second_long) in
      at_back first (second ++ ways) s (omega (arith, L.first_long))
      ∙ ap (λ (k : ℕ). get_or (second ++ ways) (s - k) 0) L.first_long
      ∙ at_back second ways (s - 65536) (omega (arith, L.second_long))
      ∙ ap (λ (k : ℕ). get_or ways k 0) e

  pub slots_long : length (slots_of first second ways) ≡ 262144
  slots_long =
      omega (arith, length-append first (second ++ ways), length-append second ways, L.first_long, L.second_long, L.ways_long)

  pub slots-empty : Empty first → Empty second → Empty ways → Empty (slots_of first second ways)
  slots-empty f g h s = go (ltb s 65536) refl (ltb s 131072) refl
    where
      go : (t : Bool) → ltb s 65536 ≡ t → (u : Bool) → ltb s 131072 ≡ u → get_or (slots_of first second ways) s 0 ≡ 0
      go true e u d = first-at s (ltb-true s 65536 e) ∙ f s
      go false e true d = second_at s (ltb-false s 65536 e) (ltb-true s 131072 d) ∙ g (s - 65536)
      go false e false d = way_at s (ltb-false s 131072 d) ∙ h (s - 131072)
