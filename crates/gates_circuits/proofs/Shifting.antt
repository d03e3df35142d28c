-- The stages of a shifter, and amounts as far as the width. Assumes nothing.
use mathlib.Core.Path.{◌≡◌, sym, ap, ◌∙◌, subst}
use mathlib.Core.Bool.{Bool, cond}
use mathlib.Core.List.{List}
use Prim.Native.Nat.{ℕ, ◌+◌, ◌-◌, ◌*◌, ◌/◌, ◌%◌, ◌^◌, ◌≤◌, ◌<◌, max}
use native.Mathlib.Nat.{mod-eq_of_lt, mul-suc, mul-le-mul_left, pow-suc}
use native.Mathlib.Omega.{arith}
use native.Mathlib.Numerals.{add-one}
use mathlib.Core.Logic.{⊎_elim}
use lib.Dec.{eqb}
use lib.Pow.{pow_mono, pow_pos}
use Rattle.facts.proofs.Numbers.{before-or-from, below}
use lib.ListN.{length, get_or}
use Rattle.gates.specs.Graph.{truth}
use Rattle.gates.specs.Grow.{Builds, Under}
use Rattle.gates.proofs.Truth.{same_truth, false-truth}
use Rattle.gates_words.specs.Number.{sum, bit_at, number}
use Rattle.gates_words.specs.Words.{Low, Puts, Writes}
use Rattle.gates_words.specs.Bitwise.{ite_of}
use Rattle.gates_words.proofs.Sums.{sum-next, sum_lt}
use Rattle.gates_circuits.specs.Makes.{From, Word, Makes}
use Rattle.gates_circuits.specs.Shift.{moved, moved_if, filled_with, Reaches, Stages}
use Rattle.gates_circuits.proofs.Laws
use Rattle.gates_circuits.proofs.Moved.{moved_none, moved-bit}
use Rattle.gates_circuits.proofs.Moves.{fill-word}

-- ---- stages

-- the word at `out` moved by the low i bits at b
abbrev pub MovedTo : (g : List ℕ) (k : ℕ) (bits h : List ℕ) (n : ℕ) (new : List ℕ) (left : Bool) (l b out w i m : ℕ) → Type 0
MovedTo g k bits h n new left l b out w i m =
    Makes g k bits h n new out w m (λ start. moved left (truth start g l) w (number start g bits out w) (number start g bits b i))

pub stages-none : (g : List ℕ) (k : ℕ) (bits : List ℕ) (left : Bool) (l b out w m : ℕ) → out + w ≤ length bits → Low bits out w k → m ≡ 0
    → MovedTo g k bits g k bits left l b out w 0 m
unfolding sum
stages-none g k bits left l b out w m le low e =
    record {
      goes = Laws.from-most (omega arith) (Laws.from-same g k bits out);
      word = Laws.word-by (Laws.word-there bits out w le low)
          (λ start. sym (moved_none left (truth start g l) w (number start g bits out w) (sum_lt (bit_at start g bits out) w)));
    }

pub stages-more : {g bits h new h' new' : List ℕ} {k n n' : ℕ} (left : Bool) (l b : ℕ) {out w i m m' all s c : ℕ} → MovedTo g k bits h n new left l b out w i m
    → b + w ≤ out → Low bits b w k → Under l k → i < w → s ≡ 2 ^ i → c ≡ get_or new (b + i) 0
    → Makes h n new h' n' new' out w m' (λ start. moved_if (truth start h c) left (truth start h l) w (number start h new out w) s) → m + m' ≤ all
    → MovedTo g k bits h' n' new' left l b out w (i + 1) all
stages-more {g} {bits} {h} {new} {k = k} left l b {out} {w} {i} {c = c} e lb low u li es ec d le =
    record {
      goes = Laws.from-most le (Laws.from-trans e.goes (omega arith) d.goes);
      word = Laws.word-by d.word
          (λ start.
          let ct : truth start h c ≡ bit_at start g bits b i =
          ap (truth start h) (ec ∙ e.goes.before (b + i) (omega arith)) ∙ same_truth start g h k (get_or bits (b + i) 0) e.goes.grown.kept (low i li) in
          (λ z. moved_if (ct z) left (same_truth start g h k l e.goes.grown.kept u z) w (e.word.is start z) (es z))
          ∙ moved-bit (bit_at start g bits b i) left (truth start g l) w (number start g bits out w) (number start g bits b i) (2 ^ i)
          ∙ ap (moved left (truth start g l) w (number start g bits out w)) (sym (sum-next (bit_at start g bits b) i)));
    }

-- the numbers of the loop
doubled : (i : ℕ) → 2 * 2 ^ i ≡ 2 ^ (i + 1)
doubled i = rw (add-one i, pow-suc 2 i) (omega arith)

-- a power of two at or above the width, and its logarithm
pub reaches : (w p k r : ℕ) → p ≡ 2 ^ k → w ≤ p → p / 2 < max 1 w → 2 ^ r ≤ p → p < 2 * 2 ^ r → Reaches w r
reaches w p k r e le half low high =
    record {
      near = λ i l. omega (arith, half, low, doubled i, pow_pos i, pow_mono {i = i + 1} {j = r} (omega arith));
      far = ⊎_elim (λ (l : k < r + 1). omega (arith, e, le, pow_mono {i = k} {j = r} (omega arith)))
          (λ (l : r + 1 ≤ k). absurd (omega (arith, e, high, doubled r, pow_mono {i = r + 1} {j = k} l)))
          (before-or-from k (r + 1));
    }

-- the last place is below the width
pub few : {w n : ℕ} → Reaches w n → n ≤ w
few {w} {n} r = ⊎_elim (λ (l : n < 1). omega arith) (λ (l : 1 ≤ n). omega (arith, below (n - 1), r.near (n - 1) (omega arith))) (before-or-from n 1)

pub few-stages : {w n : ℕ} → Reaches w n → w ≤ 129 → n ≤ 8
few-stages {w} {n} r h = ⊎_elim (λ (l : n < 9). omega arith) (λ (l : 9 ≤ n). absurd (omega (arith, h, r.near 8 (omega arith)))) (before-or-from n 9)

-- the places of a stage
pub places : {w n i : ℕ} → Reaches w n → w ≤ 129 → i < n → 1 * 2 ^ i % 18446744073709551616 ≡ 2 ^ i
places {i = i} r h l = let e : 1 * 2 ^ i ≡ 2 ^ i = omega arith in mod-eq_of_lt (omega (arith, h, r.near i l)) ∙ e

pub gates-more : (w i : ℕ) → 3 * w * i + 3 * w ≤ 3 * w * (i + 1)
gates-more w i = rw (add-one i, mul-suc (3 * w) i) (omega arith)

pub gates-all : (w i : ℕ) → i ≤ 8 → 3 * w * i ≤ 24 * w
gates-all w i h = omega (arith, mul-le-mul_left (3 * w) h)

pub gates-stage : (w i : ℕ) → i < 8 → 3 * w * i + 3 * w ≤ 24 * w
gates-stage w i h = omega (arith, gates-more w i, gates-all w (i + 1) (omega arith))

pub amount-low : {g bits h new : List ℕ} {k n out m w : ℕ} (b i : ℕ) → From g k bits h n new out m → b + w ≤ out → Low bits b w k → i < w
    → Under (get_or new (b + i) 0) n
amount-low b i e lb low li = rw (e.before (b + i) (omega arith)) (omega (arith, low i li, e.grown.more))

pub stages-done : {g bits h new : List ℕ} {k m : ℕ} (left : Bool) (l b : ℕ) {out w n i all : ℕ} → MovedTo g k bits h m new left l b out w i all → all ≤ 24 * w
    → Reaches w n → i ≡ n → Stages g k bits h m new left l b out w n
stages-done {g} {bits} {h} {new} {k} {m} left l b {out} {w} {n} {i} e le r q =
    let P : ℕ → Type 0 = λ t. MovedTo g k bits h m new left l b out w t (24 * w) in
    record { makes = subst P q (record { goes = Laws.from-most le e.goes; word = e.word }); far = r.far; few = few r }

-- ---- far

module _ {g bits mid : List ℕ} {k l n out w : ℕ} (b : ℕ) (le : out + 2 * w ≤ length bits) (few : n ≤ w) (lb : b + n ≤ out) (u : Under l k)
    (lo : Low bits out w k) (ln : Low bits b n k)
    (p : Puts bits mid (out + w) n (λ j. 0)) where
  zeros-step : From g k bits g k mid (out + w) 0
  zeros-step = Laws.puts-from g k (λ j. 0) p

  pub amount-word : Word g k mid b n (λ start. number start g bits b n)
  amount-word = Laws.word_kept (Laws.word-there bits b n (omega arith) ln) (omega arith) zeros-step

  pub zeros-word : Word g k mid (out + w) n (λ start. 0)
  zeros-word = Laws.word-by (fill-word (omega arith) (omega arith) p) (λ start. ap (λ (t : Bool). filled_with t n) (false-truth start g))

  value-word : Word g k mid out w (λ start. number start g bits out w)
  value-word = Laws.word_kept (Laws.word-there bits out w (omega arith) lo) (omega arith) zeros-step

  module _ {h full : List ℕ} {r c : ℕ} (e : Builds g k h r c (4 * n) (λ start. eqb (number start g mid b n) (number start g mid (out + w) n)))
      (q : Puts mid full (out + w) w (λ j. l)) where
    fill_step : From g k mid h c full (out + w) (4 * n)
    fill_step = record { grown = e.grown; most = e.most; size = q.size; before = q.before }

    pub value-still : Word h c full out w (λ start. number start g bits out w)
    value-still = Laws.word_kept value-word (omega arith) fill_step

    pub filled-word : Word h c full (out + w) w (λ start. filled_with (truth start g l) w)
    filled-word =
        Laws.word-by (fill-word (omega (arith, le, p.size)) (omega (arith, u, e.grown.more)) q)
        (λ start. ap (λ (t : Bool). filled_with t w) (same_truth start g h k l e.grown.kept u))

    same-zero : (start : ℕ → ℕ) → truth start h r ≡ eqb (number start g bits b n) 0
    same-zero start = e.is start ∙ (λ i. eqb (amount-word.is start i) (zeros-word.is start i))

    pub far-made : {j new : List ℕ} {a : ℕ}
        → Writes h c full j a new out w (3 * w) (λ start. ite_of (truth start h r) (number start h full out w) (number start h full (out + w) w))
        → Makes g k bits j a new out w (7 * w) (λ start. cond (eqb (number start g bits b n) 0) (number start g bits out w) (filled_with (truth start g l) w))
    far-made d =
        record {
          goes = Laws.from-most (omega arith)
              (Laws.from-trans (Laws.from-lower {out = out} (omega arith) zeros-step) (omega arith)
              (Laws.from-trans (Laws.from-lower {out = out} (omega arith) fill_step) (omega arith) (Laws.run-from d.run)));
          word = Laws.word-by (Laws.writes-word (omega (arith, le, p.size, q.size)) d)
              (λ start i. ite_of (same-zero start i) (value-still.is start i) (filled-word.is start i));
        }
