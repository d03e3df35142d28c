-- Laws of the definitions that the contracts cite: digits, runs of stores, and room for what is still to be written. Assumes nothing.
use mathlib.Core.Path.{◌≡◌, refl, sym, ap, ◌∙◌, subst}
use mathlib.Core.Bool.{Bool, true, false}
use mathlib.Core.List.{List, [], ◌∷◌, ◌++◌}
use Prim.Native.Nat.{ℕ, zero, suc, ◌+◌, ◌*◌, ◌/◌, ◌%◌, ◌≤◌, ◌<◌}
use native.Mathlib.Nat.{add-zero, add-suc, suc-add, add_assoc, div-lt_self}
use native.Mathlib.Omega.{arith}
use lib.Dec.{ltb}
use lib.ListN.{length, set, length-append}
use lib.Seq.{sets, length-sets}
use borrow.Author.Tests.{lt-ltb, le-ltb, ltb-true, ltb-false}
use Rattle.terms.specs.Display.{digit, digits_to}
use Rattle.pool.specs.Node.{wide}
use Rattle.text_digits.specs.Writing.{Room, Wrote}

-- ---- digits

-- how many digits are allowed does not matter, once they are enough
below-base : (f b x : ℕ) → x < b → digits_to f b x ≡ digit x ∷ []
unfolding digits_to
below-base zero b x h = refl
below-base (suc f) b x h = rw (digits_to, lt-ltb x b h)

from-base : (f b x : ℕ) → b ≤ x → digits_to (suc f) b x ≡ digits_to f b (x / b) ++ (digit (x % b) ∷ [])
unfolding digits_to
from-base f b x h = rw (digits_to, le-ltb x b h)

part-less : (b x : ℕ) → 2 ≤ b → b ≤ x → x / b < x
part-less b x hb h = div-lt_self (omega arith) (omega arith)

stable : (f g b x : ℕ) → 2 ≤ b → x ≤ f → x ≤ g → digits_to f b x ≡ digits_to g b x
stable zero g b x hb hf hg = below-base zero b x (omega arith) ∙ sym (below-base g b x (omega arith))
stable (suc f) zero b x hb hf hg = below-base (suc f) b x (omega arith) ∙ sym (below-base zero b x (omega arith))
stable (suc f) (suc g) b x hb hf hg = go (ltb x b) refl (λ h k. stable f g b (x / b) hb h k)
  where
    go : (t : Bool) → ltb x b ≡ t → (x / b ≤ f → x / b ≤ g → digits_to f b (x / b) ≡ digits_to g b (x / b)) → digits_to (suc f) b x ≡ digits_to (suc g) b x
    go true e ih = below-base (suc f) b x (ltb-true x b e) ∙ sym (below-base (suc g) b x (ltb-true x b e))
    go false e ih =
        let h : b ≤ x = ltb-false x b e in
        let d : x / b < x = part-less b x hb h in
        from-base f b x h ∙ ap (λ (l : List ℕ). l ++ (digit (x % b) ∷ [])) (ih (omega arith) (omega arith)) ∙ sym (from-base g b x h)

-- the digits of x in base b
abbrev pub digits : ℕ → ℕ → List ℕ
digits b x = digits_to x b x

pub digits-one : (b x : ℕ) → x < b → digits b x ≡ digit x ∷ []
digits-one b x h = below-base x b x h

pub digits_more : (b x : ℕ) → 2 ≤ b → b ≤ x → digits b x ≡ digits b (x / b) ++ (digit (x % b) ∷ [])
digits_more b zero hb h = absurd (omega arith)
digits_more b (suc x) hb h =
    let d : suc x / b < suc x = part-less b (suc x) hb h in
    from-base x b (suc x) h ∙ ap (λ (l : List ℕ). l ++ (digit (suc x % b) ∷ [])) (stable x (suc x / b) b (suc x / b) hb (omega arith) (omega arith))

pub length_more : (b x : ℕ) → 2 ≤ b → b ≤ x → length (digits b x) ≡ length (digits b (x / b)) + 1
length_more b x hb h = ap length (digits_more b x hb h) ∙ length-append (digits b (x / b)) (digit (x % b) ∷ [])

-- ---- runs of stores

pub sets-append : (l : List ℕ) (i : ℕ) (a b : List ℕ) → sets l i (a ++ b) ≡ sets (sets l i a) (i + length a) b
sets-append l i [] b = rw add-zero
sets-append l i (x ∷ a) b = sets-append (set l i x) (suc i) a b ∙ rw (suc-add, ← add-suc)

pub wrote_none : (l : List ℕ) (i : ℕ) → Wrote l i [] i l
wrote_none l i = record { next_is = omega arith; after_is = refl }

pub wrote-byte : (l : List ℕ) (i x : ℕ) → Wrote l i (x ∷ []) (i + 1) (set l i x)
wrote-byte l i x = record { next_is = refl; after_is = refl }

pub wrote_then : {l m n : List ℕ} {i j k : ℕ} {a b : List ℕ} → Wrote l i a j m → Wrote m j b k n → Wrote l i (a ++ b) k n
wrote_then {l} {m} {n} {i} {j} {k} {a} {b} u v = record {
  next_is = v.next_is ∙ ap (λ (z : ℕ). z + length b) u.next_is ∙ add_assoc i (length a) (length b) ∙ ap (λ (z : ℕ). i + z) (sym (length-append a b));
  after_is = v.after_is ∙ ap (λ (z : List ℕ). sets z j b) u.after_is ∙ ap (λ (z : ℕ). sets (sets l i a) z b) u.next_is ∙ sym (sets-append l i a b);
}

-- a run of stores leaves the length as it was
pub wrote-length : {l m : List ℕ} {i k : ℕ} {a : List ℕ} → Wrote l i a k m → length m ≡ length l
wrote-length {l} {m} {i} {k} {a} u = ap length u.after_is ∙ length-sets l i a

-- a number's last digit, written alone and after the others
pub wrote_one : (b : ℕ) (l : List ℕ) (i x r : ℕ) → x < b → r ≡ digit x → Wrote l i (digits b x) (i + 1) (set l i r)
wrote_one b l i x r h e =
    subst (λ (s : List ℕ). Wrote l i s (i + 1) (set l i r)) (ap (λ (z : ℕ). z ∷ []) e ∙ sym (digits-one b x h)) (wrote-byte l i r)

pub wrote-more : (b x r : ℕ) {l m : List ℕ} {i j : ℕ} → 2 ≤ b → b ≤ x → Wrote l i (digits b (x / b)) j m → r ≡ digit (x % b)
    → Wrote l i (digits b x) (j + 1) (set m j r)
wrote-more b x r {l} {m} {i} {j} hb h u e =
    subst (λ (s : List ℕ). Wrote l i s (j + 1) (set m j r)) (ap (λ (z : ℕ). digits b (x / b) ++ (z ∷ [])) e ∙ sym (digits_more b x hb h))
    (wrote_then u (wrote-byte m j r))

-- two words as one number: the number without its last digit, and that digit
abbrev pub without-last : ℕ → ℕ → ℕ
without-last low high = wide (low / 16 + high % 16 * 1152921504606846976) (high / 16)

words-part : (low high : ℕ) → wide low high / 16 ≡ without-last low high
words-part low high = omega arith

words_last : (low high : ℕ) → wide low high % 16 ≡ low % 16
words_last low high = omega arith

pub words-less : (low high : ℕ) → 16 ≤ wide low high → without-last low high < wide low high
words-less low high h = subst (λ (k : ℕ). k < wide low high) (words-part low high) (part-less 16 (wide low high) (omega arith) h)

-- one digit is all in the low word
words-digit : (low high : ℕ) → wide low high < 16 → wide low high ≡ low
words-digit low high h = omega arith

pub length-digit : (low high : ℕ) → wide low high < 16 → length (digits 16 (wide low high)) ≡ 1
length-digit low high h = ap length (digits-one 16 (wide low high) h)

pub length-words : (low high : ℕ) → 16 ≤ wide low high → length (digits 16 (wide low high)) ≡ length (digits 16 (without-last low high)) + 1
length-words low high h = length_more 16 (wide low high) (omega arith) h ∙ ap (λ (k : ℕ). length (digits 16 k) + 1) (words-part low high)

pub wrote-digit : (low high r : ℕ) {l : List ℕ} {i : ℕ} → wide low high < 16 → r ≡ digit low → Wrote l i (digits 16 (wide low high)) (i + 1) (set l i r)
wrote-digit low high r {l} {i} h e = wrote_one 16 l i (wide low high) r h (e ∙ ap digit (sym (words-digit low high h)))

pub wrote-words : (low high r : ℕ) {l m : List ℕ} {i j : ℕ} → 16 ≤ wide low high → Wrote l i (digits 16 (without-last low high)) j m → r ≡ digit (low % 16)
    → Wrote l i (digits 16 (wide low high)) (j + 1) (set m j r)
wrote-words low high r {l} {m} {i} {j} h u e =
    wrote-more 16 (wide low high) r (omega arith) h (subst (λ (k : ℕ). Wrote l i (digits 16 k) j m) (sym (words-part low high)) u)
    (e ∙ ap digit (sym (words_last low high)))

-- ---- room for what is still to be written

pub room-front : {l : List ℕ} {i : ℕ} {a : List ℕ} (r : List ℕ) → Room l i (a ++ r) → Room l i a
room-front {l} {i} {a} r h = record { room = omega (arith, h.room, length-append a r) }

pub room-step : {l m : List ℕ} {i j : ℕ} {a r : List ℕ} → Wrote l i a j m → Room l i (a ++ r) → Room m j r
room-step {l} {m} {i} {j} {a} {r} w h = record { room = omega (arith, h.room, length-append a r, w.next_is, wrote-length w) }

pub room_as : {l : List ℕ} {i : ℕ} {u s : List ℕ} → u ≡ s → Room l i u → Room l i s
room_as {l} {i} {u} {s} e h = subst (λ (z : List ℕ). Room l i z) e h

pub wrote_as : {l m : List ℕ} {i j : ℕ} {u s : List ℕ} → u ≡ s → Wrote l i s j m → Wrote l i u j m
wrote_as {l} {m} {i} {j} {u} {s} e h = subst (λ (z : List ℕ). Wrote l i z j m) (sym e) h

-- a number as tens and ones
pub length-tens : (x t o : ℕ) → 10 * t + o ≡ x → o < 10 → 10 ≤ x → length (digits 10 x) ≡ length (digits 10 t) + 1
length-tens x t o e h g = let p : x / 10 ≡ t = omega arith in rw p at (length_more 10 x (omega arith) g)

pub wrote-tens : (x t o r : ℕ) {l m : List ℕ} {i j : ℕ} → 10 * t + o ≡ x → o < 10 → 10 ≤ x → Wrote l i (digits 10 t) j m → r ≡ digit o
    → Wrote l i (digits 10 x) (j + 1) (set m j r)
wrote-tens x t o r {l} {m} {i} {j} e h g u q =
    let p : t ≡ x / 10 = omega arith in
    let d : o ≡ x % 10 = omega arith in
    wrote-more 10 x r (omega arith) g (subst (λ (z : ℕ). Wrote l i (digits 10 z) j m) p u) (q ∙ ap digit d)

-- two digits
pub wrote-two : (l : List ℕ) (i x t o p r : ℕ) → 10 * t + o ≡ x → o < 10 → 10 ≤ x → t < 10 → p ≡ digit t → r ≡ digit o
    → Wrote l i (digits 10 x) (i + 2) (set (set l i p) (i + 1) r)
wrote-two l i x t o p r e h g k a b =
    subst (λ (j : ℕ). Wrote l i (digits 10 x) j (set (set l i p) (i + 1) r)) (omega arith) (wrote-tens x t o r e h g (wrote_one 10 l i t p k a) b)
