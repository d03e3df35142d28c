-- Taking the bytes of a line one by one. Assumes nothing.
use mathlib.Core.Bool.{Bool, true, false}
use mathlib.Core.List.{List, [], ◌∷◌, ◌++◌, append_assoc, append-nil}
use mathlib.Core.Path.{◌≡◌, refl, sym, ap, ◌∙◌}
use Prim.Native.Nat.{ℕ, suc, ◌+◌, ◌≤◌, ◌<◌, min, max}
use native.Mathlib.Numerals.{add-one}
use native.Mathlib.Omega.{arith}
use lib.Dec.{eqb}
use lib.ListN.{length, take, drop, get_or, set, length-set, length-take}
use lib.Seq.{get_or-set_other, drop-cons, take-suc-set, take_all, take-append_seam}
use borrow.Author.Tests.{eq-eqb, ne_eqb}
use Rattle.line_pieces.specs.declared.Gathered.{Gathered}
use Rattle.line_pieces.specs.Pieces.{to_newline, ends, one, Gathers}

-- the next byte, and those after it
pub drop-next : (l : List ℕ) (i : ℕ) → i < length l → drop i l ≡ get_or l i 0 ∷ drop (i + 1) l
drop-next l i h = rw add-one (drop-cons l i 0 h)

-- what is still to be taken, s at i after n bytes of `held`, comes to the same as the whole
pub record Same (held₀ : List ℕ) (len : ℕ) (s₀ : List ℕ) (from : ℕ) (held : List ℕ) (n : ℕ) (s : List ℕ) (i : ℕ) : Type 0 where
  pub long : length held ≡ length held₀
  pub bytes : take (length held₀) (take n held ++ to_newline s) ≡ take (length held₀) (take len held₀ ++ to_newline s₀)
  pub count : max n (min (length held₀) (n + length (to_newline s))) ≡ max len (min (length held₀) (len + length (to_newline s₀)))
  pub ended : ends s ≡ ends s₀
  pub place : i + length (to_newline s) ≡ from + length (to_newline s₀)
  pub past : (j : ℕ) → n ≤ j → get_or held j 0 ≡ get_or held₀ j 0

pub same_start : (held : List ℕ) (len : ℕ) (s : List ℕ) (from : ℕ) → Same held len s from held len s from
same_start held len s from = record { long = refl; bytes = refl; count = refl; ended = refl; place = refl; past = λ j l. refl }

-- a newline, and any other byte
up-newline : (b : ℕ) (s : List ℕ) → b ≡ 10 → to_newline (b ∷ s) ≡ []
unfolding to_newline
up-newline b s e = rw (eq-eqb b 10 e)

up-other : (b : ℕ) (s : List ℕ) → (b ≡ 10 → ⊥) → to_newline (b ∷ s) ≡ b ∷ to_newline s
unfolding to_newline
up-other b s f = rw (ne_eqb b 10 f)

ends-newline : (b : ℕ) (s : List ℕ) → b ≡ 10 → ends (b ∷ s) ≡ true
unfolding ends
ends-newline b s e = rw (eq-eqb b 10 e)

ends-other : (b : ℕ) (s : List ℕ) → (b ≡ 10 → ⊥) → ends (b ∷ s) ≡ ends s
unfolding ends
ends-other b s f = rw (ne_eqb b 10 f)

module _ (held₀ : List ℕ) (len : ℕ) (s₀ : List ℕ) (from : ℕ) {held : List ℕ} {n i : ℕ} where
  -- nothing is left to be taken: the end of the bytes, or a newline
  closes : (s : List ℕ) (r : Gathered) → Same held₀ len s₀ from held n s i → to_newline s ≡ [] → r.len ≡ n → r.ended ≡ ends s
      → r.taken ≡ i + one (ends s) → Gathers held₀ len s₀ from r held
  closes s r h u e f g =
      let z : length (to_newline s) ≡ 0 = ap length u in
      let whole : take (length held₀) (take n held) ≡ take n held =
      take_all (length held₀) (take n held) (omega (arith, length-take n held, h.long))
      in
      record {
        bytes =
            ap (λ (k : ℕ). take k held) e ∙ sym whole ∙ sym (ap (take (length held₀)) (ap (λ (t : List ℕ). take n held ++ t) u ∙ append-nil (take n held)))
            ∙ h.bytes;
        long = h.long;
        past = λ j m. h.past j (omega (arith, m, e));
        len_is = omega (arith, h.count, z, e);
        ended_is = f ∙ h.ended;
        taken_is = omega (arith, g, h.place, z, ap one h.ended);
      }

  pub at-end : Same held₀ len s₀ from held n [] i → Gathers held₀ len s₀ from (record { taken = i; len = n; ended = false }) held
  unfolding to_newline ends
  at-end h = closes [] (record { taken = i; len = n; ended = false }) h refl refl refl (omega arith)

  pub at-newline : (b : ℕ) (s : List ℕ) → b ≡ 10 → Same held₀ len s₀ from held n (b ∷ s) i
      → Gathers held₀ len s₀ from (record { taken = i + 1; len = n; ended = true }) held
  at-newline b s e h =
      closes (b ∷ s) (record { taken = i + 1; len = n; ended = true }) h (up-newline b s e) refl (sym (ends-newline b s e))
      (omega (arith, ap one (ends-newline b s e)))

  -- a byte that is held, and one for which there is no room
  pub same-held : (b : ℕ) (s : List ℕ) → (b ≡ 10 → ⊥) → n < length held → Same held₀ len s₀ from held n (b ∷ s) i
      → Same held₀ len s₀ from (set held n b) (n + 1) s (i + 1)
  same-held b s f l h =
      let u = up-other b s f in
      let z : length (to_newline (b ∷ s)) ≡ suc (length (to_newline s)) = ap length u in
      let t : take (n + 1) (set held n b) ++ to_newline s ≡ take n held ++ to_newline (b ∷ s) =
      ap (λ (k : ℕ). take k (set held n b) ++ to_newline s) (add-one n)
      ∙ ap (λ (k : List ℕ). k ++ to_newline s) (take-suc-set held n b l)
      ∙ append_assoc (take n held) (b ∷ []) (to_newline s)
      ∙ ap (λ (k : List ℕ). take n held ++ k) (sym u)
      in
      record {
        long = length-set held n b ∙ h.long;
        past = λ j m. get_or-set_other held n j b 0 (λ q. omega (arith, q, m)) ∙ h.past j (omega (arith, m));
        bytes = ap (take (length held₀)) t ∙ h.bytes;
        count = omega (arith, h.count, h.long, z);
        ended = sym (ends-other b s f) ∙ h.ended;
        place = omega (arith, h.place, z);
      }

  pub same_full : (b : ℕ) (s : List ℕ) → (b ≡ 10 → ⊥) → length held ≤ n → Same held₀ len s₀ from held n (b ∷ s) i → Same held₀ len s₀ from held n s (i + 1)
  same_full b s f l h =
      let z : length (to_newline (b ∷ s)) ≡ suc (length (to_newline s)) = ap length (up-other b s f) in
      let all : (x : List ℕ) → take (length held₀) (take n held ++ x) ≡ held =
      λ x. ap (λ (k : List ℕ). take (length held₀) (k ++ x)) (take_all n held l)
      ∙ ap (λ (k : ℕ). take k (held ++ x)) (sym h.long)
      ∙ take-append_seam held x
      in
      record {
        long = h.long;
        past = h.past;
        bytes = all (to_newline s) ∙ sym (all (to_newline (b ∷ s))) ∙ h.bytes;
        count = omega (arith, h.count, h.long, z);
        ended = sym (ends-other b s f) ∙ h.ended;
        place = omega (arith, h.place, z);
      }

-- what a caller's loop over the bytes leans on: a byte is taken, and what is held has room
some-taken : (b : ℕ) (s : List ℕ) → 1 ≤ length (to_newline (b ∷ s)) + one (ends (b ∷ s))
unfolding to_newline ends
some-taken b s = go (eqb b 10) refl
  where
    go : (t : Bool) → eqb b 10 ≡ t → 1 ≤ length (to_newline (b ∷ s)) + one (ends (b ∷ s))
    go true e = rw e (omega arith)
    go false e = rw e (omega arith)

pub taken_more : (input : List ℕ) {held : List ℕ} {len from : ℕ} {r : Gathered} {after : List ℕ} → from < length input
    → Gathers held len (drop from input) from r after → from < r.taken
taken_more input {from = from} l g =
    let e = drop-next input from l in
    omega (arith, rw e at g.taken_is, some-taken (get_or input from 0) (drop (from + 1) input))

pub held_fits : {held : List ℕ} {len from : ℕ} {s : List ℕ} {r : Gathered} {after : List ℕ} → len ≤ length held → Gathers held len s from r after
    → r.len ≤ length held
held_fits l g = omega (arith, g.len_is)
