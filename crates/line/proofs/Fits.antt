-- An answer is no longer than its room, so the place after it is inside the buffer. Assumes nothing.
use mathlib.Core.Bool.{Bool, true, false, cond}
use mathlib.Core.List.{List, [], ◌∷◌, ◌++◌}
use mathlib.Core.Path.{◌≡◌, refl, ap, ◌∙◌}
use Prim.Native.Nat.{ℕ, zero, suc, ◌-◌, ◌≤◌}
use native.Mathlib.Omega.{arith}
use lib.Dec.{leb, eqb}
use lib.ListN.{length, length-append}
use lib.Seq.{length-sets}
use borrow.Author.Tests.{leb-true, ne_eqb}
use Rattle.facts.specs.Refuse.{unless}
use Rattle.facts.proofs.Tests.{passed}
use Rattle.neon.specs.Refusal.{block_refusal}
use Rattle.text_digits.specs.Writing.{Wrote}
use Rattle.line_columns.specs.Columns.{columns}
use Rattle.line_fields.specs.Fields.{in_columns, record_of}
use Rattle.line_output.specs.Answer.{text_room, answer_room, room_number, written}
use Rattle.line_output.proofs.Texts.{length-columns}
use Rattle.line.specs.Line.{record_text, answer_number, answer, answer_in}
use Rattle.line.proofs.Records.{block-low}

-- ---- every number of an answer is at most 10, and 0 only where the text has room

cond-le : (b : Bool) (x y m : ℕ) → x ≤ m → y ≤ m → cond b x y ≤ m
cond-le true x y m h k = h
cond-le false x y m h k = k

or-zero : (n rest : ℕ) → unless (eqb n 0) n rest ≡ 0 → rest ≡ 0
or-zero zero rest e = e
or-zero (suc n) rest e = absurd (omega (arith, rw (ne_eqb (suc n) 0 (λ z. absurd (omega (arith, z)))) at e))

room-zero : (s : List ℕ) → room_number s ≡ 0 → length s ≤ text_room
room-zero s e = go (leb (length s) text_room) refl e
  where
    go : (b : Bool) → leb (length s) text_room ≡ b → ◌≡◌ {A = ℕ} (cond b 0 9) 0 → length s ≤ text_room
    go true f z = leb-true (length s) text_room f
    go false f z = absurd (omega arith)

-- ---- its bytes

written-fits : (n : ℕ) (s : List ℕ) → n ≤ 10 → (n ≡ 0 → length s ≤ text_room) → length (written n s) ≤ answer_room
written-fits zero s h f =
    let a = length-append (columns 0) (32 ∷ (s ++ (10 ∷ []))) in
    let b = length-append s (10 ∷ []) in
    omega (arith, a, b, f refl, length-columns 0 (omega arith))
written-fits (suc n) s h f = omega (arith, length-append (columns (suc n)) (10 ∷ []), length-columns (suc n) (omega arith))

pub answer-fits : (p : ℕ) (line : List ℕ) → length (answer p line) ≤ answer_room
unfolding answer answer_number
answer-fits p line =
    let s = record_text (record_of line) in
    let n = (block_refusal p (record_of line ∷ [])).number in
    let low : room_number s ≤ 10 = cond-le (leb (length s) text_room) 0 9 10 (omega arith) (omega arith) in
    let block : n ≤ 10 = omega (arith, block-low p (record_of line)) in
    let after = unless (eqb n 0) n (room_number s) in
    written-fits (unless (in_columns line) 10 after) s
    (cond-le (in_columns line) after 10 10 (cond-le (eqb n 0) (room_number s) n 10 low block) (omega arith))
    (λ e. room-zero s (or-zero n (room_number s) (passed (in_columns line) (λ z. absurd (omega (arith, z))) e).1))

-- where there may be too little room, nothing is written
answer-in-fits : (room p : ℕ) (line : List ℕ) → length (answer_in room p line) ≤ room
answer-in-fits room p line = go (leb answer_room room) refl
  where
    go : (b : Bool) → leb answer_room room ≡ b → length (cond b (answer p line) []) ≤ room
    go true e = omega (arith, answer-fits p line, leb-true answer_room room e)
    go false e = omega arith

pub inside : (p : ℕ) (line : List ℕ) {out after : List ℕ} {at r : ℕ} → Wrote out at (answer_in (length out - at) p line) r after
    → at ≤ length out → r ≤ length after
inside p line {out} {after} {at} w h =
    let s = answer_in (length out - at) p line in
    let long : length after ≡ length out = ap length w.after_is ∙ length-sets out at s in
    omega (arith, w.next_is, long, answer-in-fits (length out - at) p line, h)
