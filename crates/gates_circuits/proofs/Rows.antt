-- Products: a row, rows one after the other, words in either order. Assumes nothing.
use mathlib.Core.Path.{◌≡◌, sym, ap, ◌∙◌}
use mathlib.Core.Bool.{Bool, true, false}
use mathlib.Core.List.{List}
use Prim.Native.Nat.{ℕ, ◌+◌, ◌-◌, ◌*◌, ◌/◌, ◌%◌, ◌^◌, ◌≤◌, ◌<◌}
use native.Mathlib.Nat.{add-mod-mod, mod-add-mod, mod-mod, mod-eq_of_lt, add-mul-div_right, add-mul-mod_self_right, mul-add, mul_comm, mul_assoc}
use native.Mathlib.Nat.{mul-suc, mul-le-mul_left, mul-zero, zero-add, add_assoc, one-mul, zero-mul}
use native.Mathlib.Numerals.{add-one}
use native.Mathlib.Omega.{arith}
use lib.Bits.{bit_and, and_mask, and_zero_r}
use lib.Pow.{pow_pos, mod-pow-add}
use lib.ListN.{length, get_or}
use Rattle.terms.specs.Value.{bit, bvmul}
use Rattle.gates.specs.Graph.{truth}
use Rattle.gates.specs.Grow.{Under}
use Rattle.gates.proofs.Truth.{same_truth, false-truth}
use Rattle.gates_build.specs.declared.Made.{Made}
use Rattle.gates_words.specs.Number.{sum, bit_at, number}
use Rattle.gates_words.specs.Words.{Low, Puts, Writes}
use Rattle.gates_words.specs.Adds.{Adds}
use Rattle.gates_words.proofs.Sums.{sum-next, sum_lt}
use Rattle.gates_circuits.specs.Makes.{From, Word, Makes, Two}
use Rattle.gates_circuits.specs.Shift.{filled_with}
use Rattle.gates_circuits.proofs.Laws
use Rattle.gates_circuits.proofs.Moves.{fill-word}
use Rattle.gates_circuits.proofs.Sum.{adds-word}

-- ---- numbers

masked : (c : Bool) (x n : ℕ) → bit_and (x % 2 ^ n) (filled_with c n) ≡ bit c * (x % 2 ^ n)
masked true x n = and_mask (x % 2 ^ n) n ∙ mod-mod x (2 ^ n) ∙ sym (one-mul (x % 2 ^ n))
masked false x n = and_zero_r (x % 2 ^ n) ∙ sym (zero-mul (x % 2 ^ n))

low-added : (c : Bool) (x y p : ℕ) → (x + bit c * (y % p)) % p ≡ (x + bit c * y) % p
low-added true x y p = ap (λ (t : ℕ). (x + t) % p) (one-mul (y % p)) ∙ add-mod-mod x y p ∙ ap (λ (t : ℕ). (x + t) % p) (sym (one-mul y))
low-added false x y p = ap (λ (t : ℕ). (x + t) % p) (zero-mul (y % p) ∙ sym (zero-mul y))

row_number : (c : Bool) (x y j n : ℕ) → (x / 2 ^ j + bit c * (y % 2 ^ n) + 0) % 2 ^ n * 2 ^ j + x % 2 ^ j ≡ (x + bit c * y * 2 ^ j) % 2 ^ (n + j)
row_number c x y j n =
    sym
    (mod-pow-add (x + bit c * y * 2 ^ j) n j
    ∙ (λ i.
    (add-mul-div_right x (bit c * y) {z = 2 ^ j} (pow_pos j) i) % 2 ^ n * 2 ^ j + add-mul-mod_self_right x (bit c * y) (2 ^ j) i)
    ∙ ap (λ (t : ℕ). t * 2 ^ j + x % 2 ^ j) (sym (low-added c (x / 2 ^ j) y (2 ^ n)) ∙ ap (λ (t : ℕ). t % 2 ^ n) (omega arith)))

next_row : (c : Bool) (x a b q p : ℕ) → ((x + a * b) % p + bit c * a * q) % p ≡ (x + a * (b + bit c * q)) % p
next_row c x a b q p =
    mod-add-mod (x + a * b) p (bit c * a * q)
    ∙ ap (λ (t : ℕ). t % p) (rw (mul-add a b (bit c * q), mul_comm (bit c) a, mul_assoc a (bit c) q) (add_assoc x (a * b) (a * (bit c * q))))

pub row-gates : (w j : ℕ) → 10 * w * j + 10 * w ≤ 10 * w * (j + 1)
row-gates w j = rw (add-one j, mul-suc (10 * w) j) (omega arith)

pub rows-gates : (w j : ℕ) → j < w → 10 * w * j + 10 * w ≤ 10 * w * w
rows-gates w j h = omega (arith, mul-suc (10 * w) j, mul-le-mul_left (10 * w) h)

-- ---- a row

module _ {g bits mid : List ℕ} {k out w : ℕ} (a l j : ℕ) (le : out + 2 * w ≤ length bits) (lj : j ≤ w) (la : a + w ≤ out) (u : Under l k)
    (lo : Low bits out w k) (lw : Low bits a w k)
    (p : Puts bits mid (out + w) (w - j) (λ i. l)) where
  fill_step : From g k bits g k mid (out + w) 0
  fill_step = Laws.puts-from g k (λ i. l) p

  pub low_word : Word g k mid a (w - j) (λ start. number start g bits a w % 2 ^ (w - j))
  low_word =
      Laws.word_low (w - j) j (Laws.word_wide (omega arith) (Laws.word_kept (Laws.word-there bits a w (omega arith) lw) (omega arith) fill_step))

  pub mask_word : Word g k mid (out + w) (w - j) (λ start. filled_with (truth start g l) (w - j))
  mask_word = fill-word (omega arith) u p

  out-word : Word g k mid out w (λ start. number start g bits out w)
  out-word = Laws.word_kept (Laws.word-there bits out w (omega arith) lo) (omega arith) fill_step

  module _ {h new : List ℕ} {n : ℕ}
      (e : Writes g k mid h n new (out + w) (w - j) (3 * (w - j)) (λ start. bit_and (number start g mid a (w - j)) (number start g mid (out + w) (w - j)))) where
    and_step : From g k mid h n new (out + w) (3 * (w - j))
    and_step = Laws.run-from e.run

    pub masked-word : Word h n new (out + w) (w - j) (λ start. bit (truth start g l) * (number start g bits a w % 2 ^ (w - j)))
    masked-word =
        Laws.word-by (Laws.writes-word (omega (arith, le, p.size)) e)
        (λ start. (λ i. bit_and (low_word.is start i) (mask_word.is start i)) ∙ masked (truth start g l) (number start g bits a w) (w - j))

    out-still : Word h n new out (j + (w - j)) (λ start. number start g bits out w)
    out-still = Laws.word_wide (omega arith) (Laws.word_kept out-word (omega arith) and_step)

    pub high_word : Word h n new (out + j) (w - j) (λ start. number start g bits out w / 2 ^ j)
    high_word = Laws.word-high j (w - j) out-still

    pub row_made : {i end : List ℕ} {r : Made} → Adds h n new i r end (out + j) (out + w) 0 (out + j) (w - j)
        → Makes g k bits i r.count end out w (10 * w) (λ start.
        (number start g bits out w + bit (truth start g l) * number start g bits a w * 2 ^ j) % 2 ^ w)
    row_made d =
        let low = Laws.word_kept (Laws.word_low j (w - j) out-still) (omega arith) (Laws.run-from d.run) in
        let high = adds-word (omega (arith, le, p.size, e.run.size)) d high_word masked-word in
        record {
          goes = Laws.from-most (omega arith)
              (Laws.from-trans (Laws.from-lower {out = out} (omega arith) fill_step) (omega arith)
              (Laws.from-trans (Laws.from-lower {out = out} (omega arith) and_step) (omega arith)
              (Laws.from-lower {out = out} (omega arith) (Laws.run-from d.run))));
          word = Laws.word-by (Laws.word_wide (omega arith) (Laws.word-join low high))
              (λ start.
              ap
              (λ (t : Bool). (number start g bits out w / 2 ^ j + bit (truth start g l) * (number start g bits a w % 2 ^ (w - j)) + bit t)
              % 2 ^ (w - j) * 2 ^ j + number start g bits out w % 2 ^ j)
              (false-truth start h)
              ∙ row_number (truth start g l) (number start g bits out w) (number start g bits a w) j (w - j)
              ∙ ap (λ (t : ℕ). (number start g bits out w + bit (truth start g l) * number start g bits a w * 2 ^ j) % 2 ^ t) {x = w - j + j} {y = w}
              (omega arith));
        }

-- ---- rows one after the other

-- the product of a with the low j bits of b is added to the word at `out`
abbrev pub RowsTo : (g : List ℕ) (k : ℕ) (bits h : List ℕ) (n : ℕ) (new : List ℕ) (a b out w j m : ℕ) → Type 0
RowsTo g k bits h n new a b out w j m =
    Makes g k bits h n new out w m (λ start. (number start g bits out w + number start g bits a w * number start g bits b j) % 2 ^ w)

pub rows_none : (g : List ℕ) (k : ℕ) (bits : List ℕ) (a b out w m : ℕ) → out + w ≤ length bits → Low bits out w k → RowsTo g k bits g k bits a b out w 0 m
unfolding sum
rows_none g k bits a b out w m le low =
    record {
      goes = Laws.from-most (omega arith) (Laws.from-same g k bits out);
      word = Laws.word-by (Laws.word-there bits out w le low)
          (λ start.
          sym
          (ap (λ (t : ℕ). (number start g bits out w + t) % 2 ^ w) (mul-zero (number start g bits a w))
          ∙ ap (λ (t : ℕ). t % 2 ^ w) (omega arith)
          ∙ mod-eq_of_lt (sum_lt (bit_at start g bits out) w)));
    }

module _ {g bits h new : List ℕ} {k n out w m : ℕ} (a b j : ℕ) (le : out + 2 * w ≤ length bits) (two : Two bits a b out w k)
    (e : RowsTo g k bits h n new a b out w j m) where
  pub first-still : Word h n new a w (λ start. number start g bits a w)
  first-still = Laws.word_kept (Laws.word-there bits a w (omega (arith, le, two.first)) two.low_a) two.first e.goes

  second-still : Word h n new b w (λ start. number start g bits b w)
  second-still = Laws.word_kept (Laws.word-there bits b w (omega (arith, le, two.second)) two.low_b) two.second e.goes

  pub bit-low : j < w → Under (get_or new (b + j) 0) n
  bit-low l = second-still.low j l

  pub rows_more : {h' new' : List ℕ} {n' m' all c : ℕ} → j < w → c ≡ get_or new (b + j) 0
      → Makes h n new h' n' new' out w m' (λ start. (number start h new out w + bit (truth start h c) * number start h new a w * 2 ^ j) % 2 ^ w) → m + m' ≤ all
      → RowsTo g k bits h' n' new' a b out w (j + 1) all
  rows_more {c = c} l ec d q =
      record {
        goes = Laws.from-most q (Laws.from-trans e.goes (omega arith) d.goes);
        word = Laws.word-by d.word
            (λ start.
            let x = number start g bits out w in
            let y = number start g bits a w in
            let t : truth start h c ≡ bit_at start g bits b j =
            ap (truth start h) (ec ∙ e.goes.before (b + j) (omega (arith, two.second, l))) ∙ same_truth start g h k (get_or bits (b + j) 0)
            e.goes.grown.kept (two.low_b j l) in
            (λ i. (e.word.is start i + bit (t i) * first-still.is start i * 2 ^ j) % 2 ^ w)
            ∙ next_row (bit_at start g bits b j) x y (number start g bits b j) (2 ^ j) (2 ^ w)
            ∙ ap (λ (z : ℕ). (x + y * z) % 2 ^ w) (sym (sum-next (bit_at start g bits b) j)));
      }

-- ---- from nothing, and in either order

module _ (g : List ℕ) {bits mid : List ℕ} {k a b out w : ℕ} (le : out + 2 * w ≤ length bits) (two : Two bits a b out w k)
    (p : Puts bits mid out w (λ i. 0)) where
  zero-step : From g k bits g k mid out 0
  zero-step = Laws.puts-from g k (λ i. 0) p

  pub nothing : Word g k mid out w (λ start. 0)
  nothing = Laws.word-by (fill-word (omega arith) (omega arith) p) (λ start. ap (λ (t : Bool). filled_with t w) (false-truth start g))

  first-there : Word g k mid a w (λ start. number start g bits a w)
  first-there = Laws.word_kept (Laws.word-there bits a w (omega (arith, le, two.first)) two.low_a) two.first zero-step

  second-there : Word g k mid b w (λ start. number start g bits b w)
  second-there = Laws.word_kept (Laws.word-there bits b w (omega (arith, le, two.second)) two.low_b) two.second zero-step

  pub two-there : Two mid a b out w k
  two-there = record { first = two.first; second = two.second; low_a = first-there.low; low_b = second-there.low }

  pub product-made : {h new : List ℕ} {n : ℕ} → RowsTo g k mid h n new a b out w w (10 * w * w)
      → Makes g k bits h n new out w (10 * w * w) (λ start. bvmul w (number start g bits a w) (number start g bits b w))
  unfolding bvmul
  product-made e =
      record {
        goes = Laws.from-most (omega arith) (Laws.from-trans zero-step (omega arith) e.goes);
        word = Laws.word-by e.word
            (λ start.
            (λ i. (nothing.is start i + first-there.is start i * second-there.is start i) % 2 ^ w)
            ∙ ap (λ (t : ℕ). t % 2 ^ w) (zero-add (number start g bits a w * number start g bits b w)));
      }

pub two-swapped : {bits : List ℕ} {a b out w k : ℕ} → Two bits a b out w k → Two bits b a out w k
two-swapped t = record { first = t.second; second = t.first; low_a = t.low_b; low_b = t.low_a }

pub product-swapped : {g bits h new : List ℕ} {k n out w m : ℕ} (a b : ℕ)
    → Makes g k bits h n new out w m (λ start. bvmul w (number start g bits b w) (number start g bits a w))
    → Makes g k bits h n new out w m (λ start. bvmul w (number start g bits a w) (number start g bits b w))
unfolding bvmul
product-swapped {g} {bits} {w = w} a b d =
    record { goes = d.goes; word = Laws.word-by d.word (λ start. ap (λ (t : ℕ). t % 2 ^ w) (mul_comm (number start g bits b w) (number start g bits a w))) }
