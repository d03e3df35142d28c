-- The literals of nodes that need no gates, by kind. Assumes nothing.
use mathlib.Core.Path.{◌≡◌, refl, sym, ap, ◌∙◌}
use mathlib.Core.List.{List}
use mathlib.Core.Logic.{◌⊎◌, inl, inr, ⊎_elim}
use Prim.Native.Nat.{ℕ, ◌+◌, ◌-◌, ◌*◌, ◌/◌, ◌%◌, ◌^◌, ◌≤◌, ◌<◌}
use native.Mathlib.Omega.{arith}
use native.Mathlib.Nat.{div-eq_of_lt, add-mul-div_left, mul_assoc}
use lib.ListN.{get_or}
use lib.Pow.{pow-add, pow_pos, shr-shr}
use borrow.Author.Tests.{lt-ltb, le-ltb, ltb-true}
use Rattle.facts.proofs.Numbers.{before-or-from}
use Rattle.pool.specs.Node.{Kind, kinds, kind_at, cell_at, width_at, word_at, kind_number, wide}
use Rattle.pool_fields.specs.Fields.{op_a, op_b}
use Rattle.pool_rules.proofs.Numbers.{within}
use Rattle.pool_rules.proofs.Words.{always}
use Rattle.text_parts.specs.Text.{Ready}
use Rattle.text_parts.proofs.Operands.{to-nineteen}
use Rattle.gates_pool.specs.Bits.{wire_of, wire_at, NoGates}
use Rattle.gates_pool.proofs.Rules.{most, extract-facts, concat-facts, extend-facts}

module _ (ws : List ℕ) (n : ℕ) (bits : List ℕ) (j : ℕ) where
  abbrev by_kind : Kind → ℕ
  by_kind κ = wire_of κ (cell_at ws n) (width_at ws (op_a ws n)) (width_at ws (op_b ws n)) bits j

  wire-at : (κ : ℕ) → kind_number ws n ≡ κ → wire_at ws bits n j ≡ by_kind (kind_at κ)
  wire-at κ e = ap (λ (m : ℕ). by_kind (kind_at m)) e

  pub var-wire : kind_number ws n ≡ 1 → wire_at ws bits n j ≡ 2 * (1 + 128 * word_at ws n 2 + j)
  unfolding kind_at kinds
  var-wire e = wire-at 1 e

  pub const-wire : kind_number ws n ≡ 2 → wire_at ws bits n j ≡ wide (word_at ws n 2) (word_at ws n 3) / 2 ^ j % 2
  unfolding kind_at kinds
  const-wire e = wire-at 2 e

  pub extract-wire : kind_number ws n ≡ 16 → wire_at ws bits n j ≡ get_or bits (129 * op_a ws n + (word_at ws n 3 + j)) 0
  unfolding kind_at kinds
  extract-wire e = wire-at 16 e

  pub concat-low : kind_number ws n ≡ 17 → j < width_at ws (op_b ws n) → wire_at ws bits n j ≡ get_or bits (129 * op_b ws n + j) 0
  unfolding kind_at kinds
  concat-low e l = wire-at 17 e ∙ rw (lt-ltb j (width_at ws (op_b ws n)) l)

  pub concat-high : kind_number ws n ≡ 17 → width_at ws (op_b ws n) ≤ j → wire_at ws bits n j ≡ get_or bits (129 * op_a ws n + (j - width_at ws (op_b ws n))) 0
  unfolding kind_at kinds
  concat-high e l = wire-at 17 e ∙ rw (le-ltb j (width_at ws (op_b ws n)) l)

  pub extend-low : 18 ≤ kind_number ws n → kind_number ws n < 20 → j < width_at ws (op_a ws n) → wire_at ws bits n j ≡ get_or bits (129 * op_a ws n + j) 0
  unfolding kinds
  extend-low f t l =
      let q = lt-ltb j (width_at ws (op_a ws n)) l in
      within (λ κ. by_kind κ ≡ get_or bits (129 * op_a ws n + j) 0) 18 2 (rw q, (rw q, tt)) (kind_number ws n) f t

  pub zext-high : kind_number ws n ≡ 18 → width_at ws (op_a ws n) ≤ j → wire_at ws bits n j ≡ 0
  unfolding kind_at kinds
  zext-high e l = wire-at 18 e ∙ rw (le-ltb j (width_at ws (op_a ws n)) l)

  pub sext-high : kind_number ws n ≡ 19 → width_at ws (op_a ws n) ≤ j → wire_at ws bits n j ≡ get_or bits (129 * op_a ws n + (width_at ws (op_a ws n) - 1)) 0
  unfolding kind_at kinds
  sext-high e l = wire-at 19 e ∙ rw (le-ltb j (width_at ws (op_a ws n)) l)

-- ---- the bits of a constant's two words

-- 2^64 y is even at a bit of the low word
pub low_bit : (x y j : ℕ) → j < 64 → x / 2 ^ j % 2 ≡ wide x y / 2 ^ j % 2
low_bit x y j l =
    let e : 64 ≡ j + (1 + (63 - j)) = omega arith in
    let p : 18446744073709551616 ≡ 2 ^ j * (2 * 2 ^ (63 - j)) = ap (λ (m : ℕ). 2 ^ m) e ∙ pow-add 2 j (1 + (63 - j)) ∙ ap (λ (m : ℕ). 2 ^ j * m)
    (pow-add 2 1 (63 - j)) in
    let q : 18446744073709551616 * y ≡ 2 ^ j * (2 * (2 ^ (63 - j) * y)) =
    ap (λ (m : ℕ). m * y) p ∙ mul_assoc (2 ^ j) (2 * 2 ^ (63 - j)) y ∙ ap (λ (m : ℕ). 2 ^ j * m) (mul_assoc 2 (2 ^ (63 - j)) y) in
    sym (ap (λ (m : ℕ). (x + m) / 2 ^ j % 2) q ∙ ap (λ (m : ℕ). m % 2) (add-mul-div_left x (2 * (2 ^ (63 - j) * y)) (pow_pos j)) ∙ even (x / 2 ^ j)
    (2 ^ (63 - j) * y))
  where
    even : (a b : ℕ) → (a + 2 * b) % 2 ≡ a % 2
    even a b = omega arith

pub high_bit : (x y j : ℕ) → x < 18446744073709551616 → 64 ≤ j → y / 2 ^ (j - 64) % 2 ≡ wide x y / 2 ^ j % 2
high_bit x y j s l =
    let e : j ≡ 64 + (j - 64) = omega arith in
    ap (λ (m : ℕ). m / 2 ^ (j - 64) % 2) (sym (whole x y s)) ∙ ap (λ (m : ℕ). m % 2) (shr-shr (wide x y) 64 (j - 64) ∙ ap (λ (m : ℕ). wide x y / 2 ^ m) (sym e))
  where
    whole : (x y : ℕ) → x < 18446744073709551616 → wide x y / 2 ^ 64 ≡ y
    whole x y s = omega arith

pub no-bit : (x y j : ℕ) → x < 18446744073709551616 → y < 18446744073709551616 → 128 ≤ j → 0 ≡ wide x y / 2 ^ j % 2
no-bit x y j s t l =
    sym (ap (λ (m : ℕ). m % 2) (div-eq_of_lt (ltb-true (wide x y) (2 ^ j) (sym (always x y j s t l)))))

-- ---- what comes before a node's literals is read only
module _ (ws : List ℕ) (n : ℕ) (r : Ready ws n) (bits new : List ℕ) (j : ℕ) (plain : NoGates ws n) (inside : j < width_at ws n)
    (same : (p : ℕ) → p < 129 * n → get_or new p 0 ≡ get_or bits p 0) where
  -- an operand's literal
  operand : {m i : ℕ} → m < n → i < 129 → get_or new (129 * m + i) 0 ≡ get_or bits (129 * m + i) 0
  operand {m} {i} l h = same (129 * m + i) (omega arith)

  extend-kept : 18 ≤ kind_number ws n → wire_at ws new n j ≡ wire_at ws bits n j
  extend-kept f =
      let t = to-nineteen ws n r (kind_number ws n) refl in
      let x = extend-facts ws n r f t in
      let m = most ws n r (op_a ws n) (omega (arith, x.a)) in
      let top = operand {m = op_a ws n} {i = width_at ws (op_a ws n) - 1} x.a (omega (arith, m, x.wide-a)) in
      ⊎_elim (λ l. extend-low ws n new j f t l ∙ operand x.a (omega (arith, m, l)) ∙ sym (extend-low ws n bits j f t l))
      (λ l. ⊎_elim (λ e. zext-high ws n new j e l ∙ sym (zext-high ws n bits j e l))
      (λ e. sext-high ws n new j e l ∙ top ∙ sym (sext-high ws n bits j e l)) (two-kinds f t))
      (before-or-from j (width_at ws (op_a ws n)))
    where
      two-kinds : 18 ≤ kind_number ws n → kind_number ws n < 20 → (kind_number ws n ≡ 18) ⊎ (kind_number ws n ≡ 19)
      two-kinds f t = ⊎_elim (λ l. inl (omega (arith, l, f))) (λ l. inr (omega (arith, l, t))) (before-or-from (kind_number ws n) 19)

  concat-kept : kind_number ws n ≡ 17 → wire_at ws new n j ≡ wire_at ws bits n j
  concat-kept e =
      let x = concat-facts ws n r e in
      let ma = most ws n r (op_a ws n) (omega (arith, x.a)) in
      let mb = most ws n r (op_b ws n) (omega (arith, x.b)) in
      ⊎_elim (λ l. concat-low ws n new j e l ∙ operand x.b (omega (arith, mb, l)) ∙ sym (concat-low ws n bits j e l))
      (λ l. concat-high ws n new j e l ∙ operand x.a (omega (arith, ma, l, x.width, inside)) ∙ sym (concat-high ws n bits j e l))
      (before-or-from j (width_at ws (op_b ws n)))

  extract-kept : kind_number ws n ≡ 16 → wire_at ws new n j ≡ wire_at ws bits n j
  extract-kept e =
      let x = extract-facts ws n r e in
      let m = most ws n r (op_a ws n) (omega (arith, x.a)) in
      extract-wire ws n new j e ∙ operand x.a (omega (arith, m, x.ordered, x.inside, x.width, inside)) ∙ sym (extract-wire ws n bits j e)

  leaf-kept : kind_number ws n < 3 → wire_at ws new n j ≡ wire_at ws bits n j
  unfolding kinds
  leaf-kept l = within (λ κ. by_kind ws n new j κ ≡ by_kind ws n bits j κ) 0 3 (refl, (refl, (refl, tt))) (kind_number ws n) (omega arith) l

  pub wire-kept : wire_at ws new n j ≡ wire_at ws bits n j
  wire-kept =
      ⊎_elim leaf-kept
      (λ t.
      ⊎_elim (λ l. ⊎_elim (λ q. extract-kept (omega (arith, q, plain t))) (λ q. concat-kept (omega (arith, q, l))) (before-or-from (kind_number ws n) 17))
      extend-kept (before-or-from (kind_number ws n) 18))
      (before-or-from (kind_number ws n) 3)
