-- The literals of a node that needs no gates are literals of the graph, and their number is the node's value. Assumes nothing.
use mathlib.Core.Path.{◌≡◌, refl, sym, ap, ◌∙◌}
use mathlib.Core.Bool.{Bool, true, false}
use mathlib.Core.List.{List}
use mathlib.Core.Logic.{⊎_elim}
use Prim.Native.Nat.{ℕ, zero, suc, ◌+◌, ◌-◌, ◌*◌, ◌/◌, ◌%◌, ◌^◌, ◌≤◌, ◌<◌}
use native.Mathlib.Nat.{mod-eq_of_lt, mod-lt, pow-suc, not-suc-le-zero}
use native.Mathlib.Omega.{arith}
use lib.Dec.{ltb, eqb}
use lib.ListN.{get_or}
use lib.Pow.{pow_pos}
use borrow.Author.Tests.{lt-ltb, ne_eqb, eqb-true, eqb-false}
use Rattle.facts.proofs.Numbers.{before-or-from}
use Rattle.terms.specs.Expr.{Expr, width}
use Rattle.terms.specs.Value.{value, bit, msb, bvsext}
use Rattle.pool.specs.Node.{kinds, kind_at, cell_at, width_at, word_at, kind_number, wide}
use Rattle.pool.specs.Unfold.{shape_of, earlier, unfold_at}
use Rattle.pool.proofs.Laws.{unfold-step}
use Rattle.pool_check.proofs.Sound.{sound}
use Rattle.pool_fields.specs.Fields.{op_a, op_b, op_c}
use Rattle.text_parts.specs.Text.{Ready}
use Rattle.text_parts.proofs.Operands.{to-nineteen, is-const}
use Rattle.gates.specs.Graph.{inputs, variable, inverted, input_truth, variable_to, variable_truth, truth}
use Rattle.gates.specs.Grow.{Under}
use Rattle.gates.proofs.Truth.{false-truth, true-truth}
use Rattle.gates_words.specs.Number.{sum, bit_at}
use Rattle.gates_words.proofs.Sums.{sum_same, sum-parts, sum-high, sum_low, sum_top, sum_number}
use Rattle.gates_pool.specs.Bits.{Start, literals, Held, wire_at, NoGates}
use Rattle.gates_pool.proofs.Rules.{var-facts, const-facts, extract-facts, concat-facts, extend-facts}
use Rattle.gates_pool.proofs.Literals.{var-wire, const-wire, extract-wire, concat-low, concat-high, extend-low, zext-high, sext-high}

-- ---- the truth of a register's bit and of a constant

input-truth : (start : ℕ → ℕ) (g : List ℕ) (r j : ℕ) → r < 32 → j < 128 → truth start g (2 * (1 + 128 * r + j)) ≡ eqb (start r / 2 ^ j % 2) 1
unfolding variable_truth variable_to input_truth
input-truth start g r j l h =
    let even : inverted (2 * (1 + 128 * r + j)) ≡ false = ne_eqb (2 * (1 + 128 * r + j) % 2) 1 (λ e. omega (arith, e)) in
    let its : variable (2 * (1 + 128 * r + j)) ≡ suc (128 * r + j) = omega arith in
    let reg : (128 * r + j) / 128 ≡ r = omega arith in
    let place : (128 * r + j) % 128 ≡ j = omega arith in
    rw (even, its, lt-ltb (suc (128 * r + j)) inputs (omega arith), reg, place)

bit-truth : (start : ℕ → ℕ) (g : List ℕ) (b : ℕ) → b < 2 → truth start g b ≡ eqb b 1
bit-truth start g zero l = false-truth start g
bit-truth start g (suc zero) l = true-truth start g
bit-truth start g (suc (suc b)) l = absurd (omega (arith, l))

-- one bit m times
sum-fill : (b : Bool) (m : ℕ) → sum (λ j. b) m ≡ bit b * (2 ^ m - 1)
unfolding sum
sum-fill b zero = omega arith
sum-fill true (suc m) = omega (arith, sum-fill true m, pow-suc 2 m, pow_pos m)
sum-fill false (suc m) = omega (arith, sum-fill false m)

pub literals-wide : (w : ℕ) → 1 ≤ w → literals w ≡ w
literals-wide zero l = absurd (not-suc-le-zero l)
literals-wide (suc w) l = refl

module _ (ws : List ℕ) (n : ℕ) (r : Ready ws n) where
  -- ---- a node's tree over its operands'
  abbrev pub under : ℕ → Expr
  under m = earlier (ltb m n) (unfold_at ws m)

  pub tree : (κ : ℕ) → kind_number ws n ≡ κ → unfold_at ws n ≡ shape_of (kind_at κ) (cell_at ws n) (under (op_a ws n)) (under (op_b ws n)) (under (op_c ws n))
  tree κ e =
      unfold-step ws n (cell_at ws n) refl
      ∙ ap (λ (m : ℕ). shape_of (kind_at m) (cell_at ws n) (under (op_a ws n)) (under (op_b ws n)) (under (op_c ws n))) e

  pub operand-tree : {m : ℕ} → m < n → under m ≡ unfold_at ws m
  operand-tree {m} l = rw (lt-ltb m n l)

  pub operand-width : {m : ℕ} → m < n → width (under m) ≡ width_at ws m
  operand-width {m} l = ap width (operand-tree l) ∙ (sound ws (n + 1) r.valid m (omega arith)).wide

  module _ (g : List ℕ) (k : ℕ) (bits : List ℕ) (h : Held ws n g k bits) where
    -- ---- literals of the graph
    pub operand_low : {m i : ℕ} → m < n → i < width_at ws m → Under (get_or bits (129 * m + i) 0) k
    operand_low {m} {i} l q = h.low m l i (rw (literals-wide (width_at ws m) (omega (arith, q))) q)

    extend-under : 18 ≤ kind_number ws n → (j : ℕ) → j < width_at ws n → Under (wire_at ws bits n j) k
    extend-under f j q =
        let t = to-nineteen ws n r (kind_number ws n) refl in
        let x = extend-facts ws n r f t in
        ⊎_elim (λ l. rw (extend-low ws n bits j f t l) (operand_low x.a l))
        (λ l.
        ⊎_elim (λ e. let z : kind_number ws n ≡ 18 = omega (arith, e, f) in rw (zext-high ws n bits j z l) (omega arith))
        (λ e. let z : kind_number ws n ≡ 19 = omega (arith, e, t) in rw (sext-high ws n bits j z l) (operand_low x.a (omega (arith, x.wide-a))))
        (before-or-from (kind_number ws n) 19))
        (before-or-from j (width_at ws (op_a ws n)))

    concat-under : kind_number ws n ≡ 17 → (j : ℕ) → j < width_at ws n → Under (wire_at ws bits n j) k
    concat-under e j q =
        let x = concat-facts ws n r e in
        ⊎_elim (λ l. rw (concat-low ws n bits j e l) (operand_low x.b l))
        (λ l. rw (concat-high ws n bits j e l) (operand_low x.a (omega (arith, l, q, x.width)))) (before-or-from j (width_at ws (op_b ws n)))

    extract-under : kind_number ws n ≡ 16 → (j : ℕ) → j < width_at ws n → Under (wire_at ws bits n j) k
    extract-under e j q =
        let x = extract-facts ws n r e in rw (extract-wire ws n bits j e) (operand_low x.a (omega (arith, x.ordered, x.inside, x.width, q)))

    var-under : kind_number ws n ≡ 1 → (j : ℕ) → j < width_at ws n → Under (wire_at ws bits n j) k
    var-under e j q = let x = var-facts ws n r e in rw (var-wire ws n bits j e) (omega (arith, x.0, x.1, q))

    const-under : kind_number ws n ≡ 2 → (j : ℕ) → j < width_at ws n → Under (wire_at ws bits n j) k
    const-under e j q =
        let b = mod-lt (wide (word_at ws n 2) (word_at ws n 3) / 2 ^ j) {m = 2} (omega arith) in rw (const-wire ws n bits j e) (omega (arith, b))

    -- ---- the number, at a start
    module _ (start : ℕ → ℕ) (small : Start start) where
      abbrev bit_of : ℕ → ℕ → Bool
      bit_of m = bit_at start g bits (129 * m)

      abbrev own : ℕ → Bool
      own j = truth start g (wire_at ws bits n j)

      pub operand-number : {m : ℕ} → m < n → 1 ≤ width_at ws m → sum (bit_of m) (width_at ws m) ≡ value start (unfold_at ws m)
      operand-number {m} l q = rw (literals-wide (width_at ws m) q) at (h.is start small m l)

      var-is : kind_number ws n ≡ 1 → sum own (width_at ws n) ≡ value start (unfold_at ws n)
      unfolding value kind_at kinds
      var-is e =
          let x = var-facts ws n r e in
          let each : (j : ℕ) → j < 128 → own j ≡ eqb (start (word_at ws n 2) / 2 ^ j % 2) 1 =
          λ j l. ap (truth start g) (var-wire ws n bits j e) ∙ input-truth start g (word_at ws n 2) j x.0 l in
          ap (sum own) x.1 ∙ sum_same own (λ j. eqb (start (word_at ws n 2) / 2 ^ j % 2) 1) 128 each ∙ sum_number (start (word_at ws n 2)) 128
          ∙ mod-eq_of_lt (small (word_at ws n 2) x.0) ∙ sym (ap (value start) (tree 1 e))

      const-is : kind_number ws n ≡ 2 → sum own (width_at ws n) ≡ value start (unfold_at ws n)
      unfolding value kind_at kinds
      const-is e =
          let x = const-facts ws n r e in
          let v = wide (word_at ws n 2) (word_at ws n 3) in
          let each : (j : ℕ) → j < width_at ws n → own j ≡ eqb (v / 2 ^ j % 2) 1 =
          λ j l. ap (truth start g) (const-wire ws n bits j e) ∙ bit-truth start g (v / 2 ^ j % 2) (mod-lt (v / 2 ^ j) {m = 2} (omega arith)) in
          sum_same own (λ j. eqb (v / 2 ^ j % 2) 1) (width_at ws n) each ∙ sum_number v (width_at ws n) ∙ mod-eq_of_lt x.1 ∙ sym (ap (value start) (tree 2 e))

      extract-value : kind_number ws n ≡ 16 → op_a ws n < n
          → value start (unfold_at ws n) ≡ value start (unfold_at ws (op_a ws n)) / 2 ^ word_at ws n 3 % 2 ^ suc (word_at ws n 2 - word_at ws n 3)
      unfolding value kind_at kinds
      extract-value e l =
          ap (value start) (tree 16 e) ∙ ap (λ (t : Expr). value start t / 2 ^ word_at ws n 3 % 2 ^ suc (word_at ws n 2 - word_at ws n 3)) (operand-tree l)

      extract-is : kind_number ws n ≡ 16 → sum own (width_at ws n) ≡ value start (unfold_at ws n)
      extract-is e =
          let x = extract-facts ws n r e in
          let a = op_a ws n in
          let lo = word_at ws n 3 in
          let w = width_at ws n in
          let rest = width_at ws a - (lo + w) in
          let f = bit_of a in
          let split : width_at ws a ≡ lo + (w + rest) = omega (arith, x.ordered, x.inside, x.width) in
          let w-is : suc (word_at ws n 2 - lo) ≡ w = omega (arith, x.ordered, x.width) in
          let v : value start (unfold_at ws a) ≡ sum f (lo + (w + rest)) = sym (operand-number x.a (omega (arith, x.inside))) ∙ ap (sum f) split in
          sum_same own (λ j. f (lo + j)) w (λ j l. ap (truth start g) (extract-wire ws n bits j e))
          ∙ sym (sum_low (λ j. f (lo + j)) w rest)
          ∙ ap (λ (m : ℕ). m % 2 ^ w) (sym (sum-high f lo (w + rest)))
          ∙ (λ i. sym v i / 2 ^ lo % 2 ^ sym w-is i)
          ∙ sym (extract-value e x.a)

      concat-value : kind_number ws n ≡ 17 → op_a ws n < n → op_b ws n < n
          → value start (unfold_at ws n) ≡ value start (unfold_at ws (op_a ws n)) * 2 ^ width_at ws (op_b ws n) + value start (unfold_at ws (op_b ws n))
      unfolding value kind_at kinds
      concat-value e l q =
          ap (value start) (tree 17 e)
          ∙ (λ i. value start (operand-tree l i) * 2 ^ operand-width q i + value start (operand-tree q i))

      concat-is : kind_number ws n ≡ 17 → sum own (width_at ws n) ≡ value start (unfold_at ws n)
      concat-is e =
          let x = concat-facts ws n r e in
          let A = width_at ws (op_a ws n) in
          let B = width_at ws (op_b ws n) in
          let w-is : width_at ws n ≡ B + A = omega (arith, x.width) in
          let up : sum (λ j. own (B + j)) A ≡ sum (bit_of (op_a ws n)) A =
          sum_same (λ j. own (B + j)) (bit_of (op_a ws n)) A (λ j l. ap (truth start g) (concat-high ws n bits (B + j) e (omega arith)) ∙ ap
          (bit_of (op_a ws n)) {x = B + j - B} {y = j} (omega arith)) in
          let down : sum own B ≡ sum (bit_of (op_b ws n)) B = sum_same own (bit_of (op_b ws n)) B (λ j l. ap (truth start g) (concat-low ws n bits j e l)) in
          ap (sum own) w-is ∙ sum-parts own B A
          ∙ (λ i. (up ∙ operand-number x.a x.wide-a) i * 2 ^ B + (down ∙ operand-number x.b x.wide-b) i)
          ∙ sym (concat-value e x.a x.b)

      zext_value : kind_number ws n ≡ 18 → op_a ws n < n → value start (unfold_at ws n) ≡ value start (unfold_at ws (op_a ws n))
      unfolding value kind_at kinds
      zext_value e l = ap (value start) (tree 18 e ∙ refl) ∙ ap (value start) (operand-tree l)

      sext-value : kind_number ws n ≡ 19 → op_a ws n < n
          → value start (unfold_at ws n) ≡ bvsext (width_at ws (op_a ws n)) (width_at ws n) (value start (unfold_at ws (op_a ws n)))
      unfolding value kind_at kinds
      sext-value e l = ap (value start) (tree 19 e) ∙ (λ i. bvsext (operand-width l i) (width_at ws n) (value start (operand-tree l i)))

      -- the literals above the operand's are all t
      module _ (f : 18 ≤ kind_number ws n) (t : Bool) (tops : (j : ℕ) → width_at ws (op_a ws n) ≤ j → own j ≡ t) where
        abbrev A : ℕ
        A = width_at ws (op_a ws n)

        extended : sum own (width_at ws n) ≡ bit t * (2 ^ (width_at ws n - A) - 1) * 2 ^ A + value start (unfold_at ws (op_a ws n))
        extended =
            let to = to-nineteen ws n r (kind_number ws n) refl in
            let x = extend-facts ws n r f to in
            let rest = width_at ws n - A in
            let w-is : width_at ws n ≡ A + rest = omega (arith, x.width) in
            let up : sum (λ j. own (A + j)) rest ≡ sum (λ j. t) rest = sum_same (λ j. own (A + j)) (λ j. t) rest (λ j l. tops (A + j) (omega arith)) in
            let down : sum own A ≡ sum (bit_of (op_a ws n)) A = sum_same own (bit_of (op_a ws n)) A (λ j l. ap (truth start g) (extend-low ws n bits j f to l)) in
            ap (sum own) w-is ∙ sum-parts own A rest ∙ (λ i. (up ∙ sum-fill t rest) i * 2 ^ A + (down ∙ operand-number x.a x.wide-a) i)

      zext-is : kind_number ws n ≡ 18 → sum own (width_at ws n) ≡ value start (unfold_at ws n)
      zext-is e =
          let f : 18 ≤ kind_number ws n = omega (arith, e) in
          let x = extend-facts ws n r f (to-nineteen ws n r (kind_number ws n) refl) in
          extended f false (λ j l. ap (truth start g) (zext-high ws n bits j e l) ∙ false-truth start g) ∙ omega arith ∙ sym (zext_value e x.a)

      sext-is : kind_number ws n ≡ 19 → sum own (width_at ws n) ≡ value start (unfold_at ws n)
      unfolding bvsext
      sext-is e =
          let f : 18 ≤ kind_number ws n = omega (arith, e) in
          let x = extend-facts ws n r f (to-nineteen ws n r (kind_number ws n) refl) in
          let W = width_at ws (op_a ws n) in
          let top = bit_of (op_a ws n) (W - 1) in
          let sign : bit top ≡ msb W (value start (unfold_at ws (op_a ws n))) =
          sym (sum_top (bit_of (op_a ws n)) W x.wide-a) ∙ ap (msb W) (operand-number x.a x.wide-a) in
          extended f top (λ j l. ap (truth start g) (sext-high ws n bits j e l))
          ∙ ap (λ (m : ℕ). m * (2 ^ (width_at ws n - W) - 1) * 2 ^ W + value start (unfold_at ws (op_a ws n))) sign
          ∙ sym (sext-value e x.a)

    -- ---- any of these kinds
    module _ (plain : NoGates ws n) (P : Type 0) (on-var : kind_number ws n ≡ 1 → P) (on-const : kind_number ws n ≡ 2 → P) (on-extract : kind_number ws n ≡ 16 → P)
        (on-concat : kind_number ws n ≡ 17 → P) (on-zext : kind_number ws n ≡ 18 → P) (on-sext : kind_number ws n ≡ 19 → P) where
      from-16 : 16 ≤ kind_number ws n → P
      from-16 f =
          let t = to-nineteen ws n r (kind_number ws n) refl in
          ⊎_elim (λ l. ⊎_elim (λ q. on-extract (omega (arith, q, f))) (λ q. on-concat (omega (arith, q, l))) (before-or-from (kind_number ws n) 17))
          (λ l. ⊎_elim (λ q. on-zext (omega (arith, q, l))) (λ q. on-sext (omega (arith, q, t))) (before-or-from (kind_number ws n) 19))
          (before-or-from (kind_number ws n) 18)

      first_two : kind_number ws n < 3 → (b : Bool) → eqb (kind_number ws n) 1 ≡ b → P
      first_two l true e = on-var (eqb-true (kind_number ws n) 1 e)
      first_two l false e = on-const (is-const ws n r (kind_number ws n) refl l (eqb-false (kind_number ws n) 1 e))

      by_kind : P
      by_kind = ⊎_elim (λ l. first_two l (eqb (kind_number ws n) 1) refl) (λ l. from-16 (plain l)) (before-or-from (kind_number ws n) 3)

    pub wire-under : NoGates ws n → (j : ℕ) → j < width_at ws n → Under (wire_at ws bits n j) k
    wire-under plain j q =
        by_kind plain (Under (wire_at ws bits n j) k) (λ e. var-under e j q) (λ e. const-under e j q) (λ e. extract-under e j q) (λ e. concat-under e j q)
        (λ e. extend-under (omega (arith, e)) j q)
        (λ e. extend-under (omega (arith, e)) j q)

    pub wires-number : NoGates ws n → (start : ℕ → ℕ) → Start start → sum (λ j. truth start g (wire_at ws bits n j)) (width_at ws n) ≡ value start (unfold_at ws n)
    wires-number plain start small =
        by_kind plain (sum (own start small) (width_at ws n) ≡ value start (unfold_at ws n)) (var-is start small) (const-is start small) (extract-is start small)
        (concat-is start small)
        (zext-is start small)
        (sext-is start small)

    -- such a node has one bit or more
    extended-wide : 18 ≤ kind_number ws n → 1 ≤ width_at ws n
    extended-wide f = let x = extend-facts ws n r f (to-nineteen ws n r (kind_number ws n) refl) in omega (arith, x.wide-a, x.width)

    pub wires-wide : NoGates ws n → 1 ≤ width_at ws n
    wires-wide plain =
        by_kind plain (1 ≤ width_at ws n) (λ e. omega (arith, (var-facts ws n r e).1)) (λ e. (const-facts ws n r e).0)
        (λ e. omega (arith, (extract-facts ws n r e).width))
        (λ e. omega (arith, (concat-facts ws n r e).width, (concat-facts ws n r e).wide-a))
        (λ e. extended-wide (omega (arith, e)))
        (λ e. extended-wide (omega (arith, e)))
