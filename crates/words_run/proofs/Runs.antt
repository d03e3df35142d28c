-- What a whole run writes, by its calls. Assumes nothing.
use mathlib.Core.Bool.{Bool, true, false}
use mathlib.Core.List.{List, [], ◌++◌, append_assoc, append-nil}
use mathlib.Core.Path.{◌≡◌, refl, sym, ap, ◌∙◌}
use Prim.Native.Nat.{ℕ, zero, suc, ◌+◌, ◌-◌, ◌≤◌, ◌<◌}
use native.Mathlib.Nat.{add-zero, add-suc}
use native.Mathlib.Omega.{arith}
use lib.Dec.{eqb}
use lib.ListN.{length, take, drop}
use lib.Seq.{sets-eq, take_at}
use borrow.Author.Tests.{eq-eqb, ne_eqb}
use Rattle.text_digits.specs.Writing.{Wrote}
use Rattle.text_digits.proofs.Laws.{wrote-length}
use Rattle.text_series.specs.Series.{up_to}
use Rattle.text_series.proofs.Places.{rows_eq}
use Rattle.words_run.specs.Rows.{word_count, row, report}
use Rattle.words_run.specs.Run.{Run, Program, ProgramWrites}

-- rows, and the rows after them
rows_append : (f : ℕ → List ℕ) (k m : ℕ) → up_to (k + m) f ≡ up_to k f ++ up_to m (λ i. f (k + i))
unfolding up_to
rows_append f k zero = rw (add-zero k) (sym (append-nil (up_to k f)))
rows_append f k (suc m) =
    rw (add-suc k m) (ap (λ (z : List ℕ). z ++ f (k + m)) (rows_append f k m) ∙ append_assoc (up_to k f) (up_to m (λ i. f (k + i))) (f (k + m)))

-- the front of a buffer is what was written there
front : {old s new : List ℕ} {k : ℕ} → Wrote old 0 s k new → k ≤ length new → take k new ≡ s
front {old} {s} {new} {k} w h =
    let e : length s ≡ k = omega (arith, w.next_is) in
    ap (take k) (w.after_is ∙ sets-eq s old 0 (omega (arith, h, wrote-length w, w.next_is))) ∙ take_at s (drop (0 + length s) old) k e

module _ (refusals : Bool) (bs : List ℕ) where
  -- the rows from word `from` on
  abbrev rest : ℕ → List ℕ
  rest from = up_to (word_count bs - from) (λ i. row refusals bs (from + i))

  split : (from next : ℕ) → from ≤ next → next ≤ word_count bs → up_to (next - from) (λ i. row refusals bs (from + i)) ++ rest next ≡ rest from
  split from next l h =
      let g : ℕ → List ℕ = λ i. row refusals bs (from + i) in
      let a = next - from in
      let b = word_count bs - next in
      let e : a + b ≡ word_count bs - from = omega arith in
      let same : (i : ℕ) → i < b → row refusals bs (next + i) ≡ g (a + i) =
      λ i m. ap (row refusals bs) (let q : next + i ≡ from + (a + i) = omega arith in q)
      in
      ap (λ (z : List ℕ). up_to a g ++ z) (rows_eq b (λ i. row refusals bs (next + i)) (λ i. g (a + i)) same)
      ∙ sym (rows_append g a b)
      ∙ ap (λ (k : ℕ). up_to k g) e

  none_left : (from : ℕ) → word_count bs ≤ from → [] ≡ rest from
  unfolding up_to
  none_left from h = let e : word_count bs - from ≡ 0 = omega arith in rw e refl

  run-rest : {from : ℕ} {written : List ℕ} → Run refusals bs from written → from ≤ word_count bs → written ≡ rest from
  run-rest (Run.piece {from} old r new g h) l =
      ap (λ (z : List ℕ). take r.output new ++ z) (run-rest h (g.inside l))
      ∙ ap (λ (z : List ℕ). z ++ rest r.next) (front g.wrote g.output_in)
      ∙ split from r.next g.after (g.inside l)
  run-rest (Run.last {from} h) l = none_left from h

  run-whole : {written : List ℕ} → Run refusals bs 0 written → written ≡ up_to (word_count bs) (row refusals bs)
  run-whole h =
      let e : word_count bs - 0 ≡ word_count bs = omega arith in
      run-rest h (omega arith)
      ∙ ap (λ (k : ℕ). up_to k (λ i. row refusals bs (0 + i))) e
      ∙ rows_eq (word_count bs) (λ i. row refusals bs (0 + i)) (row refusals bs) (λ i m. ap (row refusals bs) (let q : 0 + i ≡ i = omega arith in q))

pub program-writes : ProgramWrites
program-writes bs all errors output (Program.lists h) = (refl, run-whole false bs h)
program-writes bs all errors output (Program.refuses h l) =
    let e = run-whole true bs h in
    let f : eqb (length (report bs)) 0 ≡ false = ne_eqb (length (report bs)) 0 (λ z. omega (arith, z, l, ap length e)) in
    (e, rw f refl)
program-writes bs all errors output (Program.takes h z k) =
    let e = run-whole true bs h in
    let f : eqb (length (report bs)) 0 ≡ true = eq-eqb (length (report bs)) 0 (sym (ap length e) ∙ z) in
    (e, rw f (run-whole false bs k))
