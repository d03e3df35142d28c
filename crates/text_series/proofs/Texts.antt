-- Texts that are written one after the other. Assumes nothing.
use mathlib.Core.Path.{◌≡◌, refl, sym, ap, ◌∙◌, subst}
use mathlib.Core.Logic.{⊎_elim}
use mathlib.Core.List.{List, ◌++◌, append-nil}
use Prim.Native.Nat.{ℕ, zero, suc, ◌+◌, ◌-◌, ◌≤◌, ◌<◌}
use native.Mathlib.Nat.{eq-or-lt_of_le, le_of_suc-le-suc, not-suc-le-zero, zero-add}
use native.Mathlib.Numerals.{add-one}
use native.Mathlib.Omega.{arith}
use lib.ListN.{length, take, drop, length-append}
use lib.Seq.{sets-eq, drop-length, take_all}
use borrow.Rule.Slice.PartMut.{put_mid}
use Rattle.std.proofs.lemmas.Slice.{put_mid-paste}
use Rattle.text_digits.specs.Writing.{Room, Wrote}
use Rattle.text_digits.proofs.Laws.{wrote_none, wrote_then, wrote-length}
use Rattle.text_series.specs.Series.{up_to}

grows : (k j : ℕ) (g : ℕ → List ℕ) → j < k → length (up_to j g) + length (g j) ≤ length (up_to k g)
unfolding up_to
grows zero j g h = absurd (not-suc-le-zero h)
grows (suc k) j g h =
    ⊎_elim (λ e. subst (λ (i : ℕ). length (up_to i g) + length (g i) ≤ length (up_to k g ++ g k)) (sym e) (omega (arith, length-append (up_to k g) (g k))))
    (λ l. omega (arith, grows k j g l, length-append (up_to k g) (g k))) (eq-or-lt_of_le (le_of_suc-le-suc h))

module _ {b buf : List ℕ} {at end : ℕ} (g : ℕ → List ℕ) where
  pub room_next : (k j : ℕ) → j < k → Room b at (up_to k g) → Wrote b at (up_to j g) end buf → Room buf end (g j)
  room_next k j h r w = record { room = omega (arith, grows k j g h, r.room, w.next_is, wrote-length w) }

  pub wrote-next : (j : ℕ) {buf' : List ℕ} {end' : ℕ} → Wrote b at (up_to j g) end buf → Wrote buf end (g j) end' buf' → Wrote b at (up_to (j + 1) g) end' buf'
  unfolding up_to
  wrote-next j w u = rw (add-one j) (wrote_then w u)

pub wrote-first : (g : ℕ → List ℕ) (b : List ℕ) (at : ℕ) → Wrote b at (up_to 0 g) at b
unfolding up_to
wrote-first g b at = wrote_none b at

-- the next of rows that begin at `least`
pub wrote-row : {b buf buf' : List ℕ} {at end end' : ℕ} (row : ℕ → List ℕ) (least i : ℕ) → least ≤ i → Wrote b at (up_to (i - least) (λ j. row (least + j))) end buf
    → Wrote buf end (row i) end' buf' → Wrote b at (up_to (i + 1 - least) (λ j. row (least + j))) end' buf'
wrote-row {b} {buf} {buf'} {at} {end} {end'} row least i h w u =
    let e : i ≡ least + (i - least) = omega arith in
    let q : i - least + 1 ≡ i + 1 - least = omega arith in
    subst (λ (j : ℕ). Wrote b at (up_to j (λ j. row (least + j))) end' buf') q
    (wrote-next (λ j. row (least + j)) (i - least) w (subst (λ (j : ℕ). Wrote buf end (row j) end' buf') e u))

-- a text that was copied into a part of a buffer
pub wrote-copied : (l : List ℕ) (at k next : ℕ) (s t : List ℕ) → t ≡ s → k ≡ length s → next ≡ at + length s → at + length s ≤ length l
    → Wrote l at s next (put_mid at k l t)
wrote-copied l at k next s t e q n h = record {
  next_is = n;
  after_is = put_mid-paste at k l t s (length s) e (sym q) refl
      ∙ ap (λ (x : List ℕ). take at l ++ x ++ drop (at + length s) l) (take_all (length s) s (omega arith))
      ∙ sym (sets-eq s l at h);
}

-- a text that fills a buffer is what the buffer then holds
pub filled : {b buf : List ℕ} {end : ℕ} (s : List ℕ) → length s ≡ length b → Wrote b 0 s end buf → buf ≡ s
filled {b} s h w =
    w.after_is ∙ sets-eq s b 0 (omega arith)
    ∙ ap (λ (k : ℕ). s ++ drop k b) (zero-add (length s) ∙ h)
    ∙ ap (λ (t : List ℕ). s ++ t) (drop-length b)
    ∙ append-nil s
