-- Sum and difference as SMT-LIB has them. Assumes nothing.
use mathlib.Core.Path.{◌≡◌, refl, sym, ap, ◌∙◌}
use mathlib.Core.Bool.{Bool, true, false}
use mathlib.Core.List.{List}
use Prim.Native.Nat.{ℕ, ◌+◌, ◌-◌, ◌*◌, ◌%◌, ◌^◌, ◌≤◌, ◌<◌}
use native.Mathlib.Nat.{mod-eq_of_lt, add-mul-mod_self_right, add-mod-mod}
use native.Mathlib.Omega.{arith}
use lib.ListN.{length}
use lib.Bits.{bit_xor, xor_add_and, and_mask}
use lib.Pow.{pow_pos}
use Rattle.terms.specs.Value.{bit, bvadd, bvsub, bvneg}
use Rattle.gates.specs.Graph.{truth}
use Rattle.gates.proofs.Truth.{false-truth, true-truth}
use Rattle.gates_build.specs.declared.Made.{Made}
use Rattle.gates_words.specs.Number.{bit_at, number}
use Rattle.gates_words.specs.Words.{Puts, Writes}
use Rattle.gates_words.specs.Adds.{Adds}
use Rattle.gates_words.proofs.Sums.{sum_lt, sum-not, sum-none, sum_same}
use Rattle.gates_circuits.specs.Makes.{From, Word, Makes, Two}
use Rattle.gates_circuits.proofs.Laws

-- what is left of a sum when its carry is left off
pub carry-off : (n c p t : ℕ) → n < p → n + c * p ≡ t → n ≡ t % p
carry-off n c p t l e = sym (mod-eq_of_lt l) ∙ sym (add-mul-mod_self_right n c p) ∙ ap (λ (x : ℕ). x % p) e

-- the word that an adder makes, of words that are known
pub adds-word : {g bits h new : List ℕ} {k a b carry out w : ℕ} {r : Made} {x y : (ℕ → ℕ) → ℕ} → out + w ≤ length bits → Adds g k bits h r new a b carry out w
    → Word g k bits a w x → Word g k bits b w y → Word h r.count new out w (λ start. (x start + y start + bit (truth start g carry)) % 2 ^ w)
adds-word {g} {h = h} {new} {carry = carry} {out} {w} {r} {x} {y} le e p q =
    record {
      inside = omega (arith, le, e.run.size);
      low = e.run.low;
      is = λ start.
          carry-off (number start h new out w) (bit (truth start h r.literal)) (2 ^ w) _ (sum_lt (bit_at start h new out) w)
          (e.is start ∙ (λ i. p.is start i + q.is start i + bit (truth start g carry)));
    }

-- a sum
pub sum-made : {g bits h new : List ℕ} {k a b out w : ℕ} {r : Made} → out + w ≤ length bits → Two bits a b out w k → Adds g k bits h r new a b 0 out w
    → Makes g k bits h r.count new out w (7 * w) (λ start. bvadd w (number start g bits a w) (number start g bits b w))
unfolding bvadd
sum-made {g} {bits} {k = k} {a} {b} {out} {w} le two e =
    record {
      goes = Laws.run-from e.run;
      word = Laws.word-by
          (adds-word le e (Laws.word-there bits a w (omega (arith, two.first, le)) two.low_a)
          (Laws.word-there bits b w (omega (arith, two.second, le)) two.low_b))
          (λ start. let z = ap bit (false-truth start g) in ap (λ (t : ℕ). t % 2 ^ w) (omega (arith, z)));
    }

-- ---- the difference

-- a word of ones
pub ones-word : {g bits new : List ℕ} {k out w : ℕ} → out + w ≤ length bits → Puts bits new out w (λ j. 1) → Word g k new out w (λ start. 2 ^ w - 1)
ones-word {g} {w = w} le p =
    Laws.word-by (Laws.puts_word (λ j. 1) le p (λ j l. omega arith))
    (λ start. sum_same (λ j. truth start g 1) (λ j. true) w (λ j l. true-truth start g) ∙ omega
    (arith, sum-not (λ j. false) w, sum-none (λ j. false) w (λ j l. refl)))

inverted-number : (n w : ℕ) → n < 2 ^ w → bit_xor n (2 ^ w - 1) ≡ (2 ^ w - 1) - n
inverted-number n w l = omega (arith, xor_add_and n (2 ^ w - 1), and_mask n w, mod-eq_of_lt l, pow_pos w)

difference-is : (x y p : ℕ) → y < p → (x + ((p - 1) - y) + 1) % p ≡ (x + (p - y) % p) % p
difference-is x y p l = ap (λ (t : ℕ). t % p) (omega (arith, l)) ∙ sym (add-mod-mod x (p - y) p)

module _ {g bits ones : List ℕ} {k a b out w : ℕ} (le : out + w ≤ length bits) (two : Two bits a b out w k) (p : Puts bits ones out w (λ j. 1)) where
  step-one : From g k bits g k ones out 0
  step-one = Laws.puts-from g k (λ j. 1) p

  first_word : Word g k ones a w (λ start. number start g bits a w)
  first_word = Laws.word_kept (Laws.word-there bits a w (omega (arith, two.first, le)) two.low_a) two.first step-one

  pub second_word : Word g k ones b w (λ start. number start g bits b w)
  second_word = Laws.word_kept (Laws.word-there bits b w (omega (arith, two.second, le)) two.low_b) two.second step-one

  pub all_ones : Word g k ones out w (λ start. 2 ^ w - 1)
  all_ones = ones-word le p

  module _ {h flipped : List ℕ} {l : ℕ} (e : Writes g k ones h l flipped out w (3 * w)
      (λ start. bit_xor (number start g ones b w) (number start g ones out w))) where
    pub still-first : Word h l flipped a w (λ start. number start g bits a w)
    still-first = Laws.word_kept first_word two.first (Laws.run-from e.run)

    pub inverted-word : Word h l flipped out w (λ start. (2 ^ w - 1) - number start g bits b w)
    inverted-word =
        Laws.word-by (Laws.writes-word (omega (arith, le, p.size)) e)
        (λ start. (λ i. bit_xor (second_word.is start i) (all_ones.is start i)) ∙ inverted-number (number start g bits b w) w
        (sum_lt (bit_at start g bits b) w))

    pub difference-made : {j new : List ℕ} {r : Made} → Adds h l flipped j r new a out 1 out w
        → Makes g k bits j r.count new out w (10 * w) (λ start. bvsub w (number start g bits a w) (number start g bits b w))
    unfolding bvsub bvadd bvneg
    difference-made d =
        record {
          goes = Laws.from-most (omega arith) (Laws.from-trans step-one (omega arith)
              (Laws.from-trans (Laws.run-from e.run) (omega arith) (Laws.run-from d.run)));
          word = Laws.word-by (adds-word (omega (arith, le, p.size, e.run.size)) d still-first inverted-word)
              (λ start.
              ap (λ (t : Bool). (number start g bits a w + ((2 ^ w - 1) - number start g bits b w) + bit t) % 2 ^ w) (true-truth start h)
              ∙ difference-is (number start g bits a w) (number start g bits b w) (2 ^ w) (sum_lt (bit_at start g bits b) w));
        }
