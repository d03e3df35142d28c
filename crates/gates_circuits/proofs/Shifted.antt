-- The three shifts of SMT-LIB, by a shifter's stages. Assumes nothing.
use mathlib.Core.Path.{◌≡◌, refl, sym, ap, ◌∙◌}
use mathlib.Core.Bool.{Bool, true, false, cond}
use mathlib.Core.List.{List}
use Prim.Native.Nat.{ℕ, ◌+◌, ◌-◌, ◌*◌, ◌/◌, ◌%◌, ◌^◌, ◌≤◌, ◌<◌}
use native.Mathlib.Nat.{mod-eq_of_lt, div-le_self}
use native.Mathlib.Omega.{arith}
use lib.Dec.{eqb}
use lib.Pow.{pow_pos}
use lib.ListN.{length, get_or}
use Rattle.terms.specs.Value.{bit, msb, bvnot, bvshl, bvlshr, bvashr}
use Rattle.gates.specs.Graph.{truth}
use Rattle.gates.specs.Grow.{Under}
use Rattle.gates.proofs.Truth.{same_truth, false-truth}
use Rattle.gates_words.specs.Number.{bit_at, number}
use Rattle.gates_words.specs.Words.{Puts}
use Rattle.gates_words.proofs.Sums.{sum_lt}
use Rattle.gates_circuits.specs.Makes.{From, Word, Makes, Two}
use Rattle.gates_circuits.specs.Shift.{moved, filled_with, Stages}
use Rattle.gates_circuits.proofs.Laws
use Rattle.gates_circuits.proofs.Moved.{moved_all}

module _ {g bits mid : List ℕ} {k a b out w : ℕ} (le : out + 2 * w ≤ length bits) (two : Two bits a b out w k)
    (p : Puts bits mid out w (λ j. get_or bits (a + j) 0)) where
  copy_step : From g k bits g k mid out 0
  copy_step = Laws.puts-from g k (λ j. get_or bits (a + j) 0) p

  pub copied : Word g k mid out w (λ start. number start g bits a w)
  copied = Laws.copy-word (omega arith) p (Laws.word-there bits a w (omega (arith, le, two.first)) two.low_a)

  pub amount : Word g k mid b w (λ start. number start g bits b w)
  amount = Laws.word_kept (Laws.word-there bits b w (omega (arith, le, two.second)) two.low_b) two.second copy_step

  module _ {h new : List ℕ} {n i : ℕ} (left : Bool) (l : ℕ) (s : Stages g k mid h n new left l b out w i) where
    amount-low : Word g k mid b i (λ start. number start g bits b w % 2 ^ i)
    amount-low = Laws.word_low i (w - i) (Laws.word_wide (omega (arith, s.few)) amount)

    pub amount-high : Word h n new (b + i) (w - i) (λ start. number start g bits b w / 2 ^ i)
    amount-high = Laws.word-high i (w - i) (Laws.word_wide (omega (arith, s.few)) (Laws.word_kept amount two.second s.makes.goes))

    pub shift_made : {j end : List ℕ} {r : ℕ} → Under l k → (left ≡ true → l ≡ 0)
        → Makes h n new j r end out w (7 * w) (λ start. cond (eqb (number start h new (b + i) (w - i)) 0) (number start h new out w)
        (filled_with (truth start h l) w))
        → Makes g k bits j r end out w (31 * w) (λ start. moved left (truth start g l) w (number start g bits a w) (number start g bits b w))
    shift_made u z e =
        record {
          goes = Laws.from-most (omega arith) (Laws.from-trans copy_step (omega arith) (Laws.from-trans s.makes.goes (omega arith) e.goes));
          word = Laws.word-by e.word
              (λ start.
              (λ t.
              cond (eqb (amount-high.is start t) 0)
              ((s.makes.word.is start ∙ (λ v. moved left (truth start g l) w (copied.is start v) (amount-low.is start v))) t)
              (filled_with (same_truth start g h k l s.makes.goes.grown.kept u t) w))
              ∙ moved_all left (truth start g l) w (number start g bits a w) (number start g bits b w) i (sum_lt (bit_at start g bits a) w) s.far
              (λ q. ap (truth start g) (z q) ∙ false-truth start g));
        }

-- ---- by SMT-LIB's names

pub makes-by : {g bits h new : List ℕ} {k n out w m : ℕ} {f e : (ℕ → ℕ) → ℕ} → ((start : ℕ → ℕ) → f start ≡ e start) → Makes g k bits h n new out w m f
    → Makes g k bits h n new out w m e
makes-by q d = record { goes = d.goes; word = Laws.word-by d.word q }

pub left_is : (filled : Bool) (w n t : ℕ) → moved true filled w n t ≡ bvshl w n t
unfolding bvshl
left_is filled w n t = refl

shifted-lt : (n t p : ℕ) → n < p → n / 2 ^ t < p
shifted-lt n t p l = omega (arith, div-le_self n (2 ^ t), l)

pub right_is : (filled : Bool) (w n t : ℕ) → n < 2 ^ w → filled ≡ false → moved false filled w n t ≡ bvlshr w n t
unfolding bvlshr
right_is filled w n t l e = rw e (sym (mod-eq_of_lt (shifted-lt n t (2 ^ w) l)))

pub signed_is : (filled : Bool) (w n t : ℕ) → n < 2 ^ w → msb w n ≡ bit filled → moved false filled w n t ≡ bvashr w n t
unfolding bvashr bvlshr bvnot
signed_is true w n t l e =
    let small : (2 ^ w - 1) - n < 2 ^ w = omega (arith, pow_pos w) in
    rw (e, mod-eq_of_lt (shifted-lt ((2 ^ w - 1) - n) t (2 ^ w) small))
signed_is false w n t l e = rw (e, mod-eq_of_lt (shifted-lt n t (2 ^ w) l))
