-- The length of a node's text by the number of its kind, and what is left of a number when it is taken off part by part. Assumes nothing.
use Prim.Native.Nat.{ℕ, ◌+◌, ◌*◌, ◌-◌, ◌/◌, ◌%◌, ◌^◌, ◌≤◌, ◌<◌}
use mathlib.Core.Path.{◌≡◌, refl, sym, ap, ◌∙◌}
use mathlib.Core.Bool.{Bool, true, false, cond}
use mathlib.Core.List.{List}
use native.Mathlib.Omega.{arith}
use lib.Dec.{eqb}
use lib.ListN.{length, get_or, length-append}
use borrow.Author.Tests.{eqb-true, eqb-false, ne_eqb, lt-leb}
use Rattle.facts.proofs.Table.{tabulate, entry}
use Rattle.terms.specs.Display.{decimal, hexadecimal, display}
use Rattle.pool.specs.Node.{kinds, kind_at, width_at, word_at, wide, kind_number}
use Rattle.pool_rules.proofs.Numbers.{within}
use Rattle.pool_fields.specs.Fields.{op_a, op_b, op_c, left_of, right_of}
use Rattle.text_operators.specs.Between.{between_text}
use Rattle.text_parts.specs.Text.{text, open_of, open_text, end_text, single, Ready}
use Rattle.text_parts.proofs.Operands.{Pair, Single, to-nineteen, is-pair, ite-a, ite-b, pair-b, first-term}
use Rattle.text_parts.proofs.Tree.{end-range, end-width, whole-var, whole-const, whole-ite, whole_pair, whole-single}
use Rattle.text_parts.proofs.Pieces.{whole}

extend-five : (k : ℕ) → 18 ≤ k → k < 20 → length (open_text k) ≡ 5
unfolding open_text kinds
extend-five k h l = within (λ κ. length (open_of κ) ≡ 5) 18 2 (refl, (refl, tt)) k h l

-- an Extract and an extension have one operand, an operator and a Concat two
pub a-range : {k : ℕ} → k ≡ 16 → Single k
a-range h = record { from = omega arith; no-concat = λ e. omega arith }

pub an-extension : {k : ℕ} → 18 ≤ k → Single k
an-extension h = record { from = omega arith; no-concat = λ e. omega arith }

pub an-operator : {k : ℕ} → 3 ≤ k → k < 15 → Pair k
an-operator h l = record { from = h; to = omega arith; no-ite = λ e. omega arith; no_extract = λ e. omega arith }

pub not-single : {k : ℕ} → (k ≡ 16 → ⊥) → k < 18 → single k ≡ false
not-single {k} f l = rw (ne_eqb k 16 f, lt-leb 18 k l) refl

pub a-concat : {k : ℕ} → k ≡ 17 → Pair k
a-concat h = record { from = omega arith; to = omega arith; no-ite = λ e. omega arith; no_extract = λ e. omega arith }

ite-open : {k : ℕ} → k ≡ 15 → length (open_text k) ≡ 4
unfolding open_text kind_at kinds
ite-open h = rw h refl

-- the characters of a Concat, and of an operator as code takes them out of a word
pub concat-own : {k : ℕ} → k ≡ 17 → length (open_text k) + length (between_text k) + 1 ≡ 10
unfolding open_text between_text kind_at kinds
concat-own h = rw h refl

abbrev operators : ℕ → ℕ
operators i = 112594552968533 / 2 ^ (4 * i) % 16

abbrev own : ℕ → ℕ
own i = length (open_text (i + 3)) + length (between_text (i + 3)) + 1

pub operator-own : (k : ℕ) → 3 ≤ k → k < 15 → operators (k - 3) ≡ length (open_text k) + length (between_text k) + 1
unfolding open_text between_text kind_at kinds tabulate
operator-own k h l =
    let e : k - 3 + 3 ≡ k = omega arith in
    let i : k - 3 < 12 = omega arith in
    let same : tabulate operators 0 12 ≡ tabulate own 0 12 = refl in
    sym (entry operators 12 (k - 3) i) ∙ ap (λ (t : List ℕ). get_or t (k - 3) 0) same ∙ entry own 12 (k - 3) i
    ∙ ap (λ (z : ℕ). length (open_text z) + length (between_text z) + 1) e

module _ (ws : List ℕ) (n : ℕ) (r : Ready ws n) (k : ℕ) (is-k : k ≡ kind_number ws n) where
  pub size-var : k ≡ 1 → length (text ws n) ≡ length (decimal (word_at ws n 2)) + 1
  unfolding display
  size-var h = omega (arith, simp length-append at (ap length (whole-var ws n r k is-k h refl)))

  pub size-const : k ≡ 2 → length (text ws n) ≡ length (decimal (width_at ws n)) + 3 + length (hexadecimal (wide (word_at ws n 2) (word_at ws n 3)))
  unfolding display
  size-const h = omega (arith, simp length-append at (ap length (whole-const ws n r k is-k h refl refl refl)))

  -- what stands about the operand of an Extract, and of an extension
  pub about-extract : k ≡ 16 → length (open_text k) + length (end_text ws n) ≡ length (decimal (word_at ws n 2)) + 3 + length (decimal (word_at ws n 3))
  unfolding open_text kind_at kinds
  about-extract h = rw h (omega (arith, simp length-append at (ap length (end-range ws n is-k h refl refl))))

  pub about-extend : 18 ≤ k → length (open_text k) + length (end_text ws n) ≡ length (decimal (width_at ws n)) + 8
  about-extend h =
      let l = to-nineteen ws n r k is-k in
      omega (arith, extend-five k h l, simp length-append at (ap length (end-width ws n is-k h l refl)))

  -- what is left of b after the characters about an only operand, and after that operand
  pub left-after-one : (b : ℕ) {c d : ℕ} → Single k → c ≡ b - (length (open_text k) + length (end_text ws n)) → d ≡ c - length (text ws (op_a ws n)) → d ≡ b - length (text ws n)
  left-after-one b s hc hd = omega (arith, simp length-append at (ap length (whole-single ws n r k is-k s)))

  -- an Ite's condition, which comes before its arms
  abbrev pub before : ℕ
  before = cond (eqb k 15) (length (text ws (op_a ws n))) 0

  pub two_size : 3 ≤ k → single k ≡ false
      → length (text ws n)
      ≡ length (open_text k) + cond (eqb k 15) 2 0 + length (between_text k) + 1 + before + length (text ws (left_of ws n)) + length (text ws (right_of ws n))
  two_size h s = go (eqb k 15) refl
    where
      go : (t : Bool) → eqb k 15 ≡ t
          → length (text ws n)
          ≡ length (open_text k) + cond (eqb k 15) 2 0 + length (between_text k) + 1 + before + length (text ws (left_of ws n)) + length (text ws (right_of ws n))
      go true e = rw e (omega (arith, simp length-append at (ap length (rw (e, s) at (whole ws n r k is-k h)))))
      go false e = rw e (omega (arith, simp length-append at (ap length (rw (e, s) at (whole ws n r k is-k h)))))

  -- what is left of b after a node's own characters, an Ite's condition and each of two operands
  pub left-after-two : (b : ℕ) {c d e f : ℕ} → 3 ≤ k → single k ≡ false → c ≡ b - (length (open_text k) + cond (eqb k 15) 2 0 + length (between_text k) + 1)
      → d ≡ c - before
      → e ≡ d - length (text ws (left_of ws n))
      → f ≡ e - length (text ws (right_of ws n))
      → f ≡ b - length (text ws n)
  left-after-two b h s hc hd he hf = omega (arith, two_size h s)

  -- the first operand and the second come before the node
  pub first-less : 3 ≤ k → op_a ws n < n
  first-less h = go (eqb k 15) refl
    where
      go : (t : Bool) → eqb k 15 ≡ t → op_a ws n < n
      go true e = (ite-a ws n r k is-k (eqb-true k 15 e)).before
      go false e = (first-term ws n r k is-k h (eqb-false k 15 e)).before

  pub second-less : 3 ≤ k → single k ≡ false → op_b ws n < n
  second-less h s = go (eqb k 15) refl
    where
      go : (t : Bool) → eqb k 15 ≡ t → op_b ws n < n
      go true e = (ite-b ws n r k is-k (eqb-true k 15 e)).before
      go false e = (pair-b ws n r k is-k (is-pair k h (eqb-false k 15 e) s)).before

  -- the length by the number of the kind: one operand, two, an Ite
  pub single-size : Single k → length (text ws n) ≡ length (text ws (op_a ws n)) + (length (open_text k) + length (end_text ws n))
  single-size s = omega (arith, simp length-append at (ap length (whole-single ws n r k is-k s)))

  pub pair_size : Pair k → length (text ws n) ≡ length (open_text k) + length (between_text k) + 1 + (length (text ws (op_a ws n)) + length (text ws (op_b ws n)))
  pair_size b = omega (arith, simp length-append at (ap length (whole_pair ws n r k is-k b)))

  pub ite-size : k ≡ 15 → length (text ws n) ≡ length (text ws (op_a ws n)) + length (text ws (op_b ws n)) + length (text ws (op_c ws n)) + 9
  ite-size h = omega (arith, ite-open h, simp length-append at (ap length (whole-ite ws n r k is-k h)))
