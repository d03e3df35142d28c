-- An input that is read in pieces: gathering its lines and answering them gives its output, whatever the pieces are. Assumes nothing.
use mathlib.Core.Bool.{Bool, true, false, cond, false≢true}
use mathlib.Core.List.{List, [], ◌∷◌, ◌++◌, append_assoc, append-nil}
use mathlib.Core.Path.{◌≡◌, refl, sym, ap, ◌∙◌}
use Prim.Native.Nat.{ℕ, zero, suc, ◌-◌, ◌≤◌, ◌<◌}
use native.Mathlib.Omega.{arith}
use lib.Dec.{leb, eqb}
use lib.ListN.{length, take, drop}
use lib.Seq.{take_all, length-take-le}
use borrow.Author.Tests.{leb-true, leb-false, ne_eqb}
use Rattle.line_fields.specs.Fields.{in_columns}
use Rattle.line_pieces.specs.declared.Gathered.{Gathered}
use Rattle.line_pieces.specs.Pieces.{to_newline, ends, one, Gathers}
use Rattle.line.specs.Line.{answer, answer_number}
use Rattle.line.specs.Output.{last_answer, output_from, output, Rooms}

-- ---- an output, line by line

line-closed : (p : ℕ) (l s rest : List ℕ) → ends s ≡ true
    → output_from p l (s ++ rest) ≡ answer p (l ++ to_newline s) ++ output_from p [] (drop (suc (length (to_newline s))) s ++ rest)
unfolding output_from to_newline ends
line-closed p l [] rest e = absurd (false≢true e)
line-closed p l (b ∷ s) rest e = go (eqb b 10) refl (λ h. line-closed p (l ++ (b ∷ [])) s rest h)
  where
    go : (t : Bool) → eqb b 10 ≡ t
        → (ends s ≡ true → output_from p (l ++ (b ∷ [])) (s ++ rest)
        ≡ answer p ((l ++ (b ∷ [])) ++ to_newline s) ++ output_from p [] (drop (suc (length (to_newline s))) s ++ rest))
        → output_from p l ((b ∷ s) ++ rest) ≡ answer p (l ++ to_newline (b ∷ s)) ++ output_from p [] (drop (suc (length (to_newline (b ∷ s)))) (b ∷ s) ++ rest)
    go true f ih = rw f (rw append-nil refl)
    go false f ih = rw f (ih (rw f at e) ∙ rw append_assoc)

pub line-open : (p : ℕ) (l s rest : List ℕ) → ends s ≡ false → (output_from p l (s ++ rest) ≡ output_from p (l ++ s) rest) × (to_newline s ≡ s)
unfolding output_from to_newline ends
line-open p l [] rest e = (rw append-nil, refl)
line-open p l (b ∷ s) rest e = go (eqb b 10) refl (λ h. line-open p (l ++ (b ∷ [])) s rest h)
  where
    go : (t : Bool) → eqb b 10 ≡ t
        → (ends s ≡ false → (output_from p (l ++ (b ∷ [])) (s ++ rest) ≡ output_from p ((l ++ (b ∷ [])) ++ s) rest) × (to_newline s ≡ s))
        → (output_from p l ((b ∷ s) ++ rest) ≡ output_from p (l ++ (b ∷ s)) rest) × (to_newline (b ∷ s) ≡ b ∷ s)
    go true f ih = absurd (false≢true (sym (rw f at e)))
    go false f ih = (rw f ((ih (rw f at e)).0 ∙ rw append_assoc), rw f (ap (λ (z : List ℕ). b ∷ z) (ih (rw f at e)).1))

-- ---- a line of which only so many bytes are held

not-columns : (l : List ℕ) → (length l ≡ 24 → ⊥) → in_columns l ≡ false
unfolding in_columns
not-columns l f = rw (ne_eqb (length l) 24 f)

answer-cut : (p h : ℕ) (l : List ℕ) → 25 ≤ h → answer p (take h l) ≡ answer p l
unfolding answer answer_number
answer-cut p h l g = go (leb (length l) h) refl
  where
    go : (t : Bool) → leb (length l) h ≡ t → answer p (take h l) ≡ answer p l
    go true e = ap (answer p) (take_all h l (leb-true (length l) h e))
    go false e =
        let k : h < length l = leb-false (length l) h e in
        let n : length (take h l) ≡ h = length-take-le h l (omega arith) in
        rw (not-columns (take h l) (λ (z : length (take h l) ≡ 24). omega arith), not-columns l (λ (z : length l ≡ 24). omega arith))

last-cut : (p h : ℕ) (l : List ℕ) → 25 ≤ h → last_answer p (take h l) ≡ last_answer p l
last-cut p h [] g = ap (last_answer p) (take_all h [] (omega arith))
last-cut p zero (b ∷ l) g = absurd (omega arith)
last-cut p (suc h) (b ∷ l) g = answer-cut p (suc h) (b ∷ l) g

-- two cuts are one
take-cut : (h : ℕ) (l s : List ℕ) → take h (take h l ++ s) ≡ take h (l ++ s)
take-cut zero l s = refl
take-cut (suc h) [] s = refl
take-cut (suc h) (b ∷ l) s = ap (λ (z : List ℕ). b ∷ z) (take-cut h l s)

-- so of a line that is going on no byte past the 25th matters
pub output-cut : (p h : ℕ) (l s : List ℕ) → 25 ≤ h → output_from p (take h l) s ≡ output_from p l s
unfolding output_from
output-cut p h l [] g = last-cut p h l g
output-cut p h l (b ∷ s) g = go (eqb b 10) (output-cut p h (take h l ++ (b ∷ [])) s g) (output-cut p h (l ++ (b ∷ [])) s g)
  where
    go : (t : Bool) → output_from p (take h (take h l ++ (b ∷ []))) s ≡ output_from p (take h l ++ (b ∷ [])) s
        → output_from p (take h (l ++ (b ∷ []))) s ≡ output_from p (l ++ (b ∷ [])) s
        → cond t (answer p (take h l) ++ output_from p [] s) (output_from p (take h l ++ (b ∷ [])) s) ≡ cond t (answer p l ++ output_from p [] s) (output_from p (l ++ (b ∷ [])) s)
    go true e f = ap (λ (z : List ℕ). z ++ output_from p [] s) (answer-cut p h l g)
    go false e f = sym e ∙ ap (λ (z : List ℕ). output_from p z s) (take-cut h l (b ∷ [])) ∙ f

-- ---- what the program's loop keeps: the first len bytes of `held` are those of the line so far, as many as have room

module _ (p : ℕ) (line held s : List ℕ) (len from : ℕ) (r : Gathered) (after : List ℕ) (room : 25 ≤ length held)
    (holds : take len held ≡ take (length held) line) (g : Gathers held len s from r after) where
  bytes-are : take r.len after ≡ take (length held) (line ++ to_newline s)
  bytes-are = g.bytes ∙ ap (λ (z : List ℕ). take (length held) (z ++ to_newline s)) holds ∙ take-cut (length held) line (to_newline s)

  -- a newline came: the line is answered, and the next one begins
  pub piece-ended : r.ended ≡ true → (rest : List ℕ)
      → output_from p line (s ++ rest) ≡ answer p (take r.len after) ++ output p (drop (r.taken - from) s ++ rest)
  piece-ended e rest =
      let f : ends s ≡ true = sym g.ended_is ∙ e in
      let k : suc (length (to_newline s)) ≡ r.taken - from = omega (arith, g.taken_is, ap one f) in
      line-closed p line s rest f
      ∙ ap (λ (z : List ℕ). z ++ output_from p [] (drop (suc (length (to_newline s))) s ++ rest))
      (sym (answer-cut p (length held) (line ++ to_newline s) room) ∙ ap (answer p) (sym bytes-are))
      ∙ ap (λ (z : ℕ). answer p (take r.len after) ++ output_from p [] (drop z s ++ rest)) k

  -- none came: the bytes are of the line so far
  pub piece-open : r.ended ≡ false
      → ((rest : List ℕ) → output_from p line (s ++ rest) ≡ output_from p (line ++ s) rest) × (take r.len after ≡ take (length held) (line ++ s))
  piece-open e =
      let f : ends s ≡ false = sym g.ended_is ∙ e in
      (λ rest. (line-open p line s rest f).0, bytes-are ∙ ap (λ (z : List ℕ). take (length held) (line ++ z)) (line-open p line s [] f).1)

-- rooms are as long as they were
pub rooms-kept : {p h o p' h' o' : List ℕ} → length p' ≡ length p → length h' ≡ length h → length o' ≡ length o → Rooms p h o → Rooms p' h' o'
rooms-kept a b c r = record { held_room = omega (arith, b, r.held_room); out_room = omega (arith, c, r.out_room); pool_room = rw a r.pool_room }
