-- The rows of an operation at an arrangement, and room for the next of rows that begin at a number. Assumes nothing.
use mathlib.Core.Path.{◌≡◌, subst}
use mathlib.Core.Bool.{Bool, true, false, cond, ◌&&◌}
use mathlib.Core.List.{List, []}
use Prim.Native.Nat.{ℕ, ◌+◌, ◌-◌, ◌≤◌, ◌<◌}
use native.Mathlib.Omega.{arith}
use borrow.Author.Tests.{le-leb}
use Rattle.neon.specs.Op.{Op, op_at, arrangement_at, is_arrangement, bits_of_lane}
use Rattle.neon.specs.Form.{has_form, has_second, least, most, form_code_at}
use Rattle.neon_form.proofs.Parts.{without}
use Rattle.text_digits.specs.Writing.{Room, Wrote}
use Rattle.text_series.specs.Series.{up_to}
use Rattle.text_series.proofs.Texts.{room_next}
use Rattle.forms_list.specs.Forms.{second_of}
use Rattle.forms_list.specs.Texts.{immediates_text, arrangement_text}

no-form : (a b : Bool) → a ≡ true → (a && b) ≡ false → b ≡ false
no-form true b h e = e
no-form false b h e = absurd (let z : ◌≡◌ {A = ℕ} 0 1 = cc in omega arith)

pub nothing : (k a : ℕ) → 1 ≤ k → k ≤ 67 → a ≤ 6 → form_code_at k a ≡ 0 → arrangement_text k a ≡ []
unfolding arrangement_text up_to
nothing k a l h g e = rw (no-form (is_arrangement a) (has_form (op_at k) (arrangement_at a)) (le-leb a 6 g) (without k a l h e))

pub rows : (k a : ℕ) → has_form (op_at k) (arrangement_at a) ≡ true
    → immediates_text k a (least (op_at k)) (most (op_at k) (bits_of_lane (arrangement_at a))) (second_of (op_at k)) ≡ arrangement_text k a
unfolding arrangement_text immediates_text
rows k a h = rw h

pub second-small : (o : Op) → second_of o < 10000
second-small o = go (has_second o)
  where
    go : (b : Bool) → cond b 2 0 < 10000
    go true = omega arith
    go false = omega arith

-- the next of rows that begin at `least`
pub room-row : {b buf : List ℕ} {at end : ℕ} (row : ℕ → List ℕ) (least k i : ℕ) → least ≤ i → i - least < k
    → Room b at (up_to k (λ j. row (least + j))) → Wrote b at (up_to (i - least) (λ j. row (least + j))) end buf → Room buf end (row i)
room-row {b} {buf} {at} {end} row least k i h l r w =
    let e : least + (i - least) ≡ i = omega arith in
    subst (λ (j : ℕ). Room buf end (row j)) e (room_next (λ j. row (least + j)) k (i - least) l r w)
