-- The parts of a word, by the arrangement's number and the row. Assumes nothing.
use mathlib.Core.Path.{◌≡◌, refl, ap}
use mathlib.Core.Bool.{true, false, ◌&&◌, false≢true}
use Prim.Native.Nat.{ℕ, ◌+◌, ◌-◌, ◌*◌, ◌/◌, ◌≤◌}
use native.Mathlib.Omega.{arith}
use lib.Dec.{ltb}
use borrow.Author.Tests.{ltb-false}
use Rattle.facts.proofs.Table.{tabulate, agree}
use Rattle.neon.specs.Op.{Arrangement, B8, B16, H4, H8, S2, S4, D2, arrangements, arrangement_at, bits_of_lane}
use Rattle.neon.specs.Form.{Lanes, Same, Narrow, Long, Immediate, None, Left, Right, Element, most_of, immediate_code}
use Rattle.neon.proofs.Geometry.{sized}
use Rattle.words_encoding.specs.Word.{size_of}
use Rattle.words_encoding.specs.Decode.{bits, element_at, immediate_at}
use Rattle.words_encoding.specs.Parts.{is_long, size_part, element_part, place_part}

sizes : tabulate (λ a. size_of (arrangement_at a)) 0 7 ≡ tabulate (λ a. a / 2) 0 7
unfolding tabulate arrangement_at arrangements
sizes = refl

pub size_is : (a : ℕ) → a ≤ 6 → size_of (arrangement_at a) ≡ a / 2
size_is a h = agree (λ a. size_of (arrangement_at a)) (λ a. a / 2) 7 sizes a (omega arith)

pub size-long : (l : Lanes) (a : ℕ) → a ≤ 6 → is_long l ≡ true → 4194304 * (a / 2 - 1) ≡ size_part l (arrangement_at a)
size-long Same a h e = absurd (false≢true e)
size-long Narrow a h e = absurd (false≢true e)
size-long (Long u) a h e = omega (arith, size_is a h)

pub size-other : (l : Lanes) (a : ℕ) → a ≤ 6 → (is_long l && ltb 0 (a / 2)) ≡ false → 4194304 * (a / 2) ≡ size_part l (arrangement_at a)
size-other Same a h e = omega (arith, size_is a h)
size-other Narrow a h e = omega (arith, size_is a h)
size-other (Long u) a h e = omega (arith, size_is a h, ltb-false 0 (a / 2) e)

module _ (K : Immediate) (n s i m : ℕ) where
  pub row-none : immediate_code K ≡ 1 → s + 65536 * m ≡ place_part K n s i m
  row-none e = go K e
    where
      go : (K : Immediate) → immediate_code K ≡ 1 → s + 65536 * m ≡ place_part K n s i m
      go None e = refl
      go Left e = absurd (omega arith)
      go Right e = absurd (omega arith)
      go Element e = absurd (omega arith)

  pub row-left : immediate_code K ≡ 2 → 65536 * (n + i) ≡ place_part K n s i m
  row-left e = go K e
    where
      go : (K : Immediate) → immediate_code K ≡ 2 → 65536 * (n + i) ≡ place_part K n s i m
      go None e = absurd (omega arith)
      go Left e = refl
      go Right e = absurd (omega arith)
      go Element e = absurd (omega arith)

  pub row-right : (x : ℕ) → x ≡ 2 * n - i → immediate_code K ≡ 3 → 65536 * x ≡ place_part K n s i m
  row-right x q e = go K e
    where
      go : (K : Immediate) → immediate_code K ≡ 3 → 65536 * x ≡ place_part K n s i m
      go None e = absurd (omega arith)
      go Left e = absurd (omega arith)
      go Right e = ap (λ (y : ℕ). 65536 * y) q
      go Element e = absurd (omega arith)

  pub row-element : (x : ℕ) → x ≡ element_part n i → (immediate_code K ≡ 1 → ⊥) → (immediate_code K ≡ 2 → ⊥) → (immediate_code K ≡ 3 → ⊥)
      → s + 65536 * m + x ≡ place_part K n s i m
  row-element x q a b c = go K a b c
    where
      go : (K : Immediate) → (immediate_code K ≡ 1 → ⊥) → (immediate_code K ≡ 2 → ⊥) → (immediate_code K ≡ 3 → ⊥) → s + 65536 * m + x ≡ place_part K n s i m
      go None a b c = absurd (a refl)
      go Left a b c = absurd (b refl)
      go Right a b c = absurd (c refl)
      go Element a b c = ap (λ (y : ℕ). s + 65536 * m + y) q

-- bounds

pub most-small : (K : Immediate) (v : Arrangement) → most_of K (bits_of_lane v) ≤ 256
most-small None v = omega arith
most-small Left v = omega (arith, (sized v).most)
most-small Right v = omega (arith, (sized v).most)
most-small Element B8 = omega arith
most-small Element B16 = omega arith
most-small Element H4 = omega arith
most-small Element H8 = omega arith
most-small Element S2 = omega arith
most-small Element S4 = omega arith
most-small Element D2 = omega arith

-- ---- a word's fields

pub at_none : (K : Immediate) (n w : ℕ) → immediate_code K ≡ 1 → 0 ≡ immediate_at K n w
at_none None n w e = refl
at_none Left n w e = absurd (omega arith)
at_none Right n w e = absurd (omega arith)
at_none Element n w e = absurd (omega arith)

pub at_left : (K : Immediate) (n w x : ℕ) → x ≡ bits 22 16 w - n → immediate_code K ≡ 2 → x ≡ immediate_at K n w
at_left None n w x q e = absurd (omega (arith, e))
at_left Left n w x q e = q
at_left Right n w x q e = absurd (omega (arith, e))
at_left Element n w x q e = absurd (omega (arith, e))

pub at_right : (K : Immediate) (n w x : ℕ) → x ≡ 2 * n - bits 22 16 w → immediate_code K ≡ 3 → x ≡ immediate_at K n w
at_right None n w x q e = absurd (omega (arith, e))
at_right Left n w x q e = absurd (omega (arith, e))
at_right Right n w x q e = q
at_right Element n w x q e = absurd (omega (arith, e))

pub at-element : (K : Immediate) (n w x : ℕ) → x ≡ element_at n w → (immediate_code K ≡ 1 → ⊥) → (immediate_code K ≡ 2 → ⊥) → (immediate_code K ≡ 3 → ⊥) → x ≡ immediate_at K n w
at-element None n w x q a b c = absurd (a refl)
at-element Left n w x q a b c = absurd (b refl)
at-element Right n w x q a b c = absurd (c refl)
at-element Element n w x q a b c = q
