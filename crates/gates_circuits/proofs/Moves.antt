-- A word moved by copies is above it. Assumes nothing.
use mathlib.Core.Path.{◌≡◌, refl, ap, ◌∙◌}
use mathlib.Core.Bool.{Bool, true, false}
use mathlib.Core.List.{List}
use Prim.Native.Nat.{ℕ, ◌+◌, ◌-◌, ◌*◌, ◌%◌, ◌^◌, ◌≤◌}
use native.Mathlib.Omega.{arith}
use lib.ListN.{length, get_or}
use Rattle.gates.specs.Graph.{truth}
use Rattle.gates.specs.Grow.{Under}
use Rattle.gates.proofs.Truth.{false-truth}
use Rattle.gates_words.specs.Number.{sum, number}
use Rattle.gates_words.specs.Words.{Low, Puts, Writes}
use Rattle.gates.proofs.Laws.{grown-same}
use Rattle.gates_words.specs.Bitwise.{ite_of}
use Rattle.gates_words.proofs.Sums.{sum-not, sum-none}
use Rattle.gates_circuits.specs.Makes.{From, Word, Makes}
use Rattle.gates_circuits.specs.Shift.{moved, moved_if, filled_with, Moves}
use Rattle.gates_circuits.proofs.Laws
use Rattle.gates_circuits.proofs.Moved.{left-parts, right-parts}

sum-filled : (b : Bool) (w : ℕ) → sum (λ j. b) w ≡ filled_with b w
sum-filled true w = omega (arith, sum-not (λ j. false) w, sum-none (λ j. false) w (λ j l. refl))
sum-filled false w = sum-none (λ j. false) w (λ j l. refl)

-- one literal w times
pub fill-word : {g bits new : List ℕ} {k out w l : ℕ} → out + w ≤ length bits → Under l k → Puts bits new out w (λ j. l)
    → Word g k new out w (λ start. filled_with (truth start g l) w)
fill-word {g} {w = w} {l} le u p = Laws.word-by (Laws.puts_word (λ j. l) le p (λ j d. u)) (λ start. sum-filled (truth start g l) w)

module _ {bits mid new : List ℕ} {out s w : ℕ} (h : s ≤ w) (le : out + 2 * w ≤ length bits) where
  pub left-made : Puts bits mid (out + w) s (λ j. 0) → Puts mid new (out + w + s) (w - s) (λ j. get_or mid (out + j) 0) → Moves bits new true 0 out s w
  left-made p q =
      record {
        keeps = record { size = q.size ∙ p.size; before = λ i l. q.before i (omega arith) ∙ p.before i l };
        moves = λ {g} {k} {f} u word.
            let there = Laws.word_kept word (omega arith) (Laws.puts-from g k (λ j. 0) p) in
            let part = Laws.word_low (w - s) s (Laws.word_wide (omega arith) there) in
            let high = Laws.copy-word (omega (arith, p.size)) q part in
            let low = Laws.word_kept (fill-word {g = g} {k = k} (omega arith) (omega arith) p) (omega arith)
            (Laws.puts-from g k (λ j. get_or mid (out + j) 0) q) in
            Laws.word-by (Laws.word_wide (omega arith) (Laws.word-join low high))
            (λ start. ap (λ (b : Bool). f start % 2 ^ (w - s) * 2 ^ s + filled_with b s) (false-truth start g) ∙ left-parts (f start) s w h);
      }

  pub right-made : {l : ℕ} → Puts bits mid (out + w) (w - s) (λ j. get_or bits (out + s + j) 0) → Puts mid new (out + w + (w - s)) s (λ j. l)
      → Moves bits new false l out s w
  right-made {l} p q =
      record {
        keeps = record { size = q.size ∙ p.size; before = λ i d. q.before i (omega arith) ∙ p.before i d };
        moves = λ {g} {k} {f} u word.
            let part = Laws.word-high s (w - s) (Laws.word_wide (omega arith) word) in
            let low = Laws.word_kept (Laws.copy-word (omega arith) p part) (omega arith) (Laws.puts-from g k (λ j. l) q) in
            let high = fill-word {g = g} {k = k} (omega (arith, p.size)) u q in
            Laws.word-by (Laws.word_wide (omega arith) (Laws.word-join low high))
            (λ start. right-parts (truth start g l) (f start) s w (Laws.word_lt word start) h);
      }

-- ---- a stage: the word at `out`, or the one above it

module _ {g bits mid : List ℕ} {k out s w l : ℕ} {left : Bool} (le : out + 2 * w ≤ length bits) (u : Under l k) (low : Low bits out w k)
    (mv : Moves bits mid left l out s w) where
  keeps-from : From g k bits g k mid (out + w) 0
  keeps-from = record { grown = grown-same g k; most = omega arith; size = mv.keeps.size; before = mv.keeps.before }

  there : Word g k bits out w (λ start. number start g bits out w)
  there = Laws.word-there bits out w (omega arith) low

  pub stays-word : Word g k mid out w (λ start. number start g bits out w)
  stays-word = Laws.word_kept there (omega arith) keeps-from

  pub moved_word : Word g k mid (out + w) w (λ start. moved left (truth start g l) w (number start g bits out w) s)
  moved_word = mv.moves u there

  pub stage-made : {h new : List ℕ} {n : ℕ} (c : ℕ)
      → Writes g k mid h n new out w (3 * w) (λ start. ite_of (truth start g c) (number start g mid (out + w) w) (number start g mid out w))
      → Makes g k bits h n new out w (3 * w) (λ start. moved_if (truth start g c) left (truth start g l) w (number start g bits out w) s)
  stage-made c e =
      record {
        goes = Laws.from-most (omega arith) (Laws.from-trans (Laws.from-lower (omega arith) keeps-from) (omega arith) (Laws.run-from e.run));
        word = Laws.word-by (Laws.writes-word (omega (arith, le, mv.keeps.size)) e)
            (λ start i. ite_of (truth start g c) (moved_word.is start i) (stays-word.is start i));
      }

-- up and down, by the flag
pub moves-as : {bits new : List ℕ} {left : Bool} {l out s w : ℕ} (z : ℕ) → left ≡ true → l ≡ z → Moves bits new true z out s w → Moves bits new left l out s w
moves-as z e q m = rw (e, q) m

pub moves-down : {bits new : List ℕ} {left : Bool} (l : ℕ) {out s w : ℕ} → left ≡ false → Moves bits new false l out s w → Moves bits new left l out s w
moves-down l e m = rw e m
