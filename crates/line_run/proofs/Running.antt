-- One turn of the loop over the lines of a piece, and the end of the input. Assumes nothing.
use mathlib.Core.Bool.{Bool, true, false}
use mathlib.Core.List.{List, [], ◌∷◌, ◌++◌, append_assoc}
use mathlib.Core.Path.{◌≡◌, refl, sym, ap, ◌∙◌}
use Prim.Native.Nat.{ℕ, ◌+◌, ◌-◌, ◌≤◌, ◌<◌}
use native.Mathlib.Omega.{arith}
use lib.Dec.{leb}
use lib.ListN.{length, take, drop, length-take, length-drop, length-append, drop_of_length-le}
use lib.Seq.{take_all, take-append_seam, drop-drop, sets-eq, length-take-le}
use borrow.Author.Tests.{le-leb, leb-true, leb-false}
use Rattle.text_digits.specs.Writing.{Wrote}
use Rattle.text_digits.proofs.Laws.{wrote_as}
use Rattle.line_pieces.specs.declared.Gathered.{Gathered}
use Rattle.line_pieces.specs.Pieces.{to_newline, ends, Gathers}
use Rattle.line_output.specs.Answer.{answer_room}
use Rattle.line.specs.Line.{answer, answer_in}
use Rattle.line.specs.Output.{output_from}
use Rattle.line.proofs.Fits.{answer-fits}
use Rattle.line.proofs.Output.{line-open, output-cut, piece-ended, piece-open}
use Rattle.line_run.specs.Going.{answers, Ends}

-- ---- an answer stands after what was in the output

wrote-front : {out out' a : List ℕ} {at next : ℕ} → at + length a ≤ length out → Wrote out at a next out' → take next out' ≡ take at out ++ a
wrote-front {out} {out'} {a} {at} {next} h w =
    let size : length (take at out ++ a) ≡ next =
    length-append (take at out) a ∙ ap (λ (z : ℕ). z + length a) (length-take-le at out (omega (arith, h))) ∙ sym w.next_is
    in
    ap (take next) (w.after_is ∙ sets-eq a out at h)
    ∙ ap (λ (z : ℕ). take z (take at out ++ a ++ drop (at + length a) out)) (sym size)
    ∙ take-append_seam (take at out ++ a) (drop (at + length a) out)

answer-front : (p : ℕ) (line : List ℕ) {out out' : List ℕ} {at next : ℕ} → at ≤ length out → answer_room ≤ length out - at
    → Wrote out at (answer_in (length out - at) p line) next out' → take next out' ≡ take at out ++ answer p line
answer-front p line {out} {out'} {at} l k w =
    let whole : answer_in (length out - at) p line ≡ answer p line = rw (le-leb answer_room (length out - at) k) refl in
    wrote-front (omega (arith, answer-fits p line, l, k)) (wrote_as (sym whole) w)

-- ---- a turn

module _ (p : ℕ) (held piece : List ℕ) (len next : ℕ) (r : Gathered) (held' : List ℕ) (room : 25 ≤ length held)
    (g : Gathers held len (drop next piece) next r held') where
  holds : take len held ≡ take (length held) (take len held)
  holds = sym (take_all (length held) (take len held) (omega (arith, length-take len held)))

  left : drop (r.taken - next) (drop next piece) ≡ drop r.taken piece
  left =
      let e : next + (r.taken - next) ≡ r.taken = omega (arith, g.taken_is) in
      drop-drop (r.taken - next) next piece ∙ ap (λ (k : ℕ). drop k piece) e

  -- a newline came, and the line was answered: none of it is held
  pub turn-ended : {out out' : List ℕ} {output output' : ℕ} → r.ended ≡ true → output ≤ length out → answer_room ≤ length out - output
      → Wrote out output (answer_in (length out - output) p (take r.len held')) output' out' → (rest : List ℕ)
      → take output' out' ++ answers p held' 0 (drop r.taken piece ++ rest) ≡ take output out ++ answers p held len (drop next piece ++ rest)
  turn-ended {out} {out'} {output} {output'} e l k w rest =
      let a = answer p (take r.len held') in
      let then = output_from p [] (drop r.taken piece ++ rest) in
      ap (λ (z : List ℕ). z ++ then) (answer-front p (take r.len held') l k w)
      ∙ append_assoc (take output out) a then
      ∙ ap (λ (z : List ℕ). take output out ++ z)
      (ap (λ (z : List ℕ). a ++ output_from p [] (z ++ rest)) (sym left)
      ∙ sym (piece-ended p (take len held) held (drop next piece) len next r held' room holds g e rest))

  -- none came: the piece ends, and its bytes are held, as many as have room
  pub turn-open : r.ended ≡ false → (rest : List ℕ)
      → answers p held' r.len (drop r.taken piece ++ rest) ≡ answers p held len (drop next piece ++ rest)
  turn-open e rest =
      let s = drop next piece in
      let f : ends s ≡ false = sym g.ended_is ∙ e in
      let o = piece-open p (take len held) held s len next r held' room holds g e in
      let all : to_newline s ≡ s = (line-open p (take len held) s [] f).1 in
      let gone : drop r.taken piece ≡ [] =
      drop_of_length-le piece {i = r.taken} (omega (arith, g.taken_is, ap length all, length-drop next piece))
      in
      ap (λ (z : List ℕ). output_from p (take r.len held') (z ++ rest)) gone
      ∙ ap (λ (z : List ℕ). output_from p z rest) o.1
      ∙ output-cut p (length held) (take len held ++ s) rest room
      ∙ sym (o.0 rest)

-- ---- where the loop stops for want of room, something was put into the output, and so something was taken

pub some-taken : {from next output size : ℕ} → from ≤ next → (next ≡ from → output ≡ 0) → size - output < answer_room → answer_room ≤ size → from < next
some-taken {from} {next} l f k h = go (leb next from) refl
  where
    go : (b : Bool) → leb next from ≡ b → from < next
    go true t = absurd (omega (arith, k, h, f (omega (arith, l, leb-true next from t))))
    go false t = leb-false next from t

-- ---- the end of the input

pub last_none : (p : ℕ) (held out : List ℕ) (len : ℕ) → len ≡ 0 → Ends p held len 0 out
unfolding output_from
last_none p held out len e = record { same = rw e refl; output_fits = omega arith }

last-is : (p : ℕ) (line : List ℕ) → 0 < length line → output_from p line [] ≡ answer p line
unfolding output_from
last-is p [] h = absurd (omega arith)
last-is p (b ∷ line) h = refl

pub last_some : (p : ℕ) (held : List ℕ) (len : ℕ) {out out' : List ℕ} {r : ℕ} → 0 < len → len ≤ length held → answer_room ≤ length out
    → Wrote out 0 (answer_in (length out - 0) p (take len held)) r out' → r ≤ length out' → Ends p held len r out'
last_some p held len h l k w i = record {
  same = answer-front p (take len held) (omega arith) (omega (arith, k)) w ∙ sym (last-is p (take len held) (omega (arith, h, length-take-le len held l)));
  output_fits = i;
}
