-- Words: what a step makes of them, what stays, words side by side and parts of words. Assumes nothing.
use mathlib.Core.Path.{◌≡◌, refl, sym, ap, ◌∙◌, subst}
use mathlib.Core.List.{List}
use mathlib.Core.Logic.{inl, inr, ⊎_elim}
use Prim.Native.Nat.{ℕ, ◌+◌, ◌-◌, ◌*◌, ◌/◌, ◌%◌, ◌^◌, ◌≤◌, ◌<◌}
use native.Mathlib.Nat.{lt_of_lt_of_le, add_assoc}
use native.Mathlib.Omega.{arith}
use lib.ListN.{length, get_or}
use Rattle.facts.proofs.Numbers.{before-or-from}
use Rattle.gates.specs.Graph.{truth}
use Rattle.gates.specs.Grow.{Under}
use Rattle.gates.proofs.Laws.{grown-same, grown-trans}
use Rattle.gates_words.specs.Number.{sum, bit_at, number}
use Rattle.gates_words.specs.Words.{Low, Reads, Operand, Puts, Run, Writes}
use Rattle.gates_words.proofs.Sums.{sum_same, sum-parts, sum-high, sum_low, sum_lt}
use Rattle.gates_words.proofs.Loops.{number-kept, low-kept}
use Rattle.gates_circuits.specs.Makes.{From, Word, Two}

-- ---- steps

pub from-same : (g : List ℕ) (k : ℕ) (bits : List ℕ) (out : ℕ) → From g k bits g k bits out 0
from-same g k bits out = record { grown = grown-same g k; most = omega arith; size = refl; before = λ p l. refl }

pub from-trans : {g bits h new j end : List ℕ} {k l n out out' m m' : ℕ} → From g k bits h l new out m → out ≤ out' → From h l new j n end out' m'
    → From g k bits j n end out (m + m')
from-trans a le b =
    record {
      grown = grown-trans a.grown b.grown;
      most = omega (arith, a.most, b.most);
      size = b.size ∙ a.size;
      before = λ p l. b.before p (lt_of_lt_of_le l le) ∙ a.before p l;
    }

pub from-most : {g bits h new : List ℕ} {k l out m m' : ℕ} → m ≤ m' → From g k bits h l new out m → From g k bits h l new out m'
from-most le a = record { grown = a.grown; most = omega (arith, a.most, le); size = a.size; before = a.before }

pub from-lower : {g bits h new : List ℕ} {k l out out' m : ℕ} → out ≤ out' → From g k bits h l new out' m → From g k bits h l new out m
from-lower le a = record { grown = a.grown; most = a.most; size = a.size; before = λ p l. a.before p (lt_of_lt_of_le l le) }

pub puts-from : (g : List ℕ) (k : ℕ) {bits new : List ℕ} {out w : ℕ} (h : ℕ → ℕ) → Puts bits new out w h → From g k bits g k new out 0
puts-from g k h p = record { grown = grown-same g k; most = omega arith; size = p.size; before = p.before }

pub run-from : {g bits h new : List ℕ} {k l out w m : ℕ} → Run g k bits h l new out w m → From g k bits h l new out m
run-from r = record { grown = r.grown; most = r.most; size = r.size; before = r.before }

-- ---- words

module _ {g : List ℕ} {k : ℕ} {bits : List ℕ} {at w : ℕ} {f : (ℕ → ℕ) → ℕ} (word : Word g k bits at w f) where
  pub word_kept : {h new : List ℕ} {l out m : ℕ} → at + w ≤ out → From g k bits h l new out m → Word h l new at w f
  word_kept {new = new} le s =
      let same : (j : ℕ) → j < w → get_or new (at + j) 0 ≡ get_or bits (at + j) 0 = λ j l. s.before (at + j) (omega arith) in
      record {
        inside = omega (arith, word.inside, s.size);
        low = low-kept bits new at at w s.grown.more word.low same;
        is = λ start. number-kept start bits new at at w s.grown word.low same ∙ word.is start;
      }

  pub word-by : {h : (ℕ → ℕ) → ℕ} → ((start : ℕ → ℕ) → f start ≡ h start) → Word g k bits at w h
  word-by e = record { inside = word.inside; low = word.low; is = λ start. word.is start ∙ e start }

  pub word-reads : Reads bits at w k
  word-reads = record { inside = word.inside; low = word.low }

  pub word_below : {out : ℕ} → at + w ≤ out → Operand bits at out w k
  word_below le = record { apart = inl le; inside = word.inside; low = word.low }

  pub word-from : {out : ℕ} → out ≤ at → Operand bits at out w k
  word-from le = record { apart = inr le; inside = word.inside; low = word.low }

  pub word_lt : (start : ℕ → ℕ) → f start < 2 ^ w
  word_lt start = rw (word.is start) at (sum_lt (bit_at start g bits at) w)

-- the same width by another name
pub word_wide : {g : List ℕ} {k : ℕ} {bits : List ℕ} {at m n : ℕ} {f : (ℕ → ℕ) → ℕ} → m ≡ n → Word g k bits at m f → Word g k bits at n f
word_wide {g} {k} {bits} {at} {f = f} e w = subst (λ (n : ℕ). Word g k bits at n f) e w

-- a word that is there
pub word-there : {g : List ℕ} {k : ℕ} (bits : List ℕ) (at w : ℕ) → at + w ≤ length bits → Low bits at w k
    → Word g k bits at w (λ start. number start g bits at w)
word-there bits at w le low = record { inside = le; low = low; is = λ start. refl }

pub writes-word : {g bits h new : List ℕ} {k l out w m : ℕ} {f : (ℕ → ℕ) → ℕ} → out + w ≤ length bits → Writes g k bits h l new out w m f → Word h l new out w f
writes-word le r = record { inside = omega (arith, le, r.run.size); low = r.run.low; is = r.is }

pub puts_word : {g bits new : List ℕ} {k out w : ℕ} (h : ℕ → ℕ) → out + w ≤ length bits → Puts bits new out w h → ((j : ℕ) → j < w → Under (h j) k)
    → Word g k new out w (λ start. sum (λ j. truth start g (h j)) w)
puts_word {g} {bits} {new} {k} {out} {w} h le p u =
    record {
      inside = omega (arith, le, p.size);
      low = λ j l. rw (p.at j l) (u j l);
      is = λ start. sum_same (bit_at start g new out) (λ j. truth start g (h j)) w (λ j l. ap (truth start g) (p.at j l));
    }

-- a copy
pub copy-word : {g bits new : List ℕ} {k from out w : ℕ} {f : (ℕ → ℕ) → ℕ} → out + w ≤ length bits → Puts bits new out w (λ j. get_or bits (from + j) 0)
    → Word g k bits from w f → Word g k new out w f
copy-word {bits = bits} {from = from} le p word = word-by (puts_word (λ j. get_or bits (from + j) 0) le p word.low) word.is

-- two operands before the word that is made
pub first_of : {bits : List ℕ} {a b out w k : ℕ} → out + w ≤ length bits → Two bits a b out w k → Operand bits a out w k
first_of le t = record { apart = inl t.first; inside = omega (arith, le, t.first); low = t.low_a }

pub second-of : {bits : List ℕ} {a b out w k : ℕ} → out + w ≤ length bits → Two bits a b out w k → Operand bits b out w k
second-of le t = record { apart = inl t.second; inside = omega (arith, le, t.second); low = t.low_b }

-- ---- words side by side, and parts of words

pub word-join : {g bits : List ℕ} {k at n m : ℕ} {f h : (ℕ → ℕ) → ℕ} → Word g k bits at n f → Word g k bits (at + n) m h
    → Word g k bits at (n + m) (λ start. h start * 2 ^ n + f start)
word-join {g} {bits} {k} {at} {n} {m} lo hi =
    record {
      inside = omega (arith, hi.inside);
      low = λ j l. ⊎_elim (λ s. lo.low j s) (λ s. upper j s l) (before-or-from j n);
      is = λ start.
          sum-parts (bit_at start g bits at) n m
          ∙ (λ i.
          (sum_same (λ j. bit_at start g bits at (n + j)) (bit_at start g bits (at + n)) m
          (λ j l. ap (λ (p : ℕ). truth start g (get_or bits p 0)) (sym (add_assoc at n j)))
          ∙ hi.is start) i * 2 ^ n + lo.is start i);
    }
  where
    upper : (j : ℕ) → n ≤ j → j < n + m → Under (get_or bits (at + j) 0) k
    upper j s l = let e : at + j ≡ at + n + (j - n) = omega arith in rw e (hi.low (j - n) (omega arith))

pub word_low : {g bits : List ℕ} {k at : ℕ} (n m : ℕ) {f : (ℕ → ℕ) → ℕ} → Word g k bits at (n + m) f → Word g k bits at n (λ start. f start % 2 ^ n)
word_low {g} {bits} {at = at} n m w =
    record {
      inside = omega (arith, w.inside);
      low = λ j l. w.low j (omega arith);
      is = λ start. sym (sum_low (bit_at start g bits at) n m) ∙ ap (λ (x : ℕ). x % 2 ^ n) (w.is start);
    }

pub word-high : {g bits : List ℕ} {k at : ℕ} (n m : ℕ) {f : (ℕ → ℕ) → ℕ} → Word g k bits at (n + m) f → Word g k bits (at + n) m (λ start. f start / 2 ^ n)
word-high {g} {bits} {at = at} n m w =
    record {
      inside = omega (arith, w.inside);
      low = λ j l. rw (add_assoc at n j) (w.low (n + j) (omega arith));
      is = λ start.
          sum_same (bit_at start g bits (at + n)) (λ j. bit_at start g bits at (n + j)) m
          (λ j l. ap (λ (p : ℕ). truth start g (get_or bits p 0)) (add_assoc at n j))
          ∙ sym (sum-high (bit_at start g bits at) n m)
          ∙ ap (λ (x : ℕ). x / 2 ^ n) (w.is start);
    }
