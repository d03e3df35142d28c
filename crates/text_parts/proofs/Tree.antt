-- The text of a node by the number of its kind, from the texts of its operands. Assumes nothing.
use Prim.Native.Nat.{ℕ, ◌≤◌, ◌<◌}
use mathlib.Core.Path.{◌≡◌, refl, ap, ◌∙◌}
use mathlib.Core.List.{List, ◌++◌}
use mathlib.Core.Logic.{⊎_elim}
use native.Mathlib.Omega.{arith}
use lib.Dec.{ltb}
use borrow.Author.Tests.{lt-ltb}
use Rattle.terms.specs.Expr.{Expr, Var, Const}
use Rattle.terms.specs.Display.{bytes, display}
use Rattle.pool.specs.Node.{Kind, kinds, kind_at, Cell, cell_at, width_at, word_at, wide, kind_number}
use Rattle.pool.specs.Unfold.{shape_of, earlier, unfold_at}
use Rattle.pool.proofs.Laws.{unfold-step}
use Rattle.pool_rules.proofs.Numbers.{within}
use Rattle.pool_fields.specs.Fields.{op_a, op_b, op_c}
use Rattle.text_operators.specs.Between.{between_of, between_text}
use Rattle.text_parts.specs.Text.{text, open_of, open_text, range_text, width_text, end_of, end_text, Ready}
use Rattle.text_parts.proofs.Operands.{Pair, Single, pair-kinds, single-kinds, to-nineteen, compare-low, compare-high, ite-a, ite-b, ite-c, pair-a, pair-b, single-a}

-- ---- by the number κ of the kind

module _ (c : Cell) (A B C : Expr) where
  abbrev Two : Kind → Type 0
  Two κ = display (shape_of κ c A B C) ≡ open_of κ ++ (display A ++ (between_of κ ++ (display B ++ bytes ")")))

  shape_two : (κ : ℕ) → 3 ≤ κ → κ < 15 → Two (kind_at κ)
  unfolding display kinds
  shape_two κ h l =
      within Two 3 12 (refl, (refl, (refl, (refl, (refl, (refl, (refl, (refl, (refl, (refl, (refl, (refl, tt)))))))))))) κ h (omega arith)

  abbrev One : Kind → Type 0
  One κ = display (shape_of κ c A B C) ≡ open_of κ ++ (display A ++ end_of κ c.x c.y c.width)

  shape-extend : (κ : ℕ) → 18 ≤ κ → κ < 20 → One (kind_at κ)
  unfolding display kinds
  shape-extend κ h l = within One 18 2 (refl, (refl, tt)) κ h (omega arith)

  shape-pair : {κ : ℕ} → Pair κ → Two (kind_at κ)
  unfolding display kind_at kinds
  shape-pair b = ⊎_elim (λ l. shape_two _ b.from l) (λ e. rw e) (pair-kinds b)

  shape-single : {κ : ℕ} → Single κ → κ < 20 → One (kind_at κ)
  unfolding display kind_at kinds
  shape-single s l = ⊎_elim (λ e. rw e) (λ h. shape-extend _ h l) (single-kinds s)

-- ---- what comes before the operands, and after the only one

pub bracket : {k : ℕ} → 3 ≤ k → k < 15 → open_text k ≡ bytes "("
unfolding open_text kinds
bracket {k} h l =
    within (λ κ. open_of κ ≡ bytes "(") 3 12 (refl, (refl, (refl, (refl, (refl, (refl, (refl, (refl, (refl, (refl, (refl, (refl, tt)))))))))))) k h (omega arith)

-- what is none of 15 to 19 is an operator
pub a-bracket : {k : ℕ} → 3 ≤ k → k < 20 → ((((Unit {0} × (k ≡ 15 → ⊥)) × (k ≡ 16 → ⊥)) × (k ≡ 17 → ⊥)) × (k ≡ 18 → ⊥)) × (k ≡ 19 → ⊥)
    → open_text k ≡ bytes "("
a-bracket h l r = bracket h (below l r.0.0.0.0.1 r.0.0.0.1 r.0.0.1 r.0.1 r.1)
  where
    below : {k : ℕ} → k < 20 → (k ≡ 15 → ⊥) → (k ≡ 16 → ⊥) → (k ≡ 17 → ⊥) → (k ≡ 18 → ⊥) → (k ≡ 19 → ⊥) → k < 15
    below l a b c d e = omega arith

pub end-range : (ws : List ℕ) (n : ℕ) {k x y : ℕ} → k ≡ kind_number ws n → k ≡ 16 → x ≡ word_at ws n 2 → y ≡ word_at ws n 3 → end_text ws n ≡ range_text x y
unfolding end_text kind_at kinds
end-range ws n is-k e ex ey = rw (← is-k, e, ex, ey)

pub end-width : (ws : List ℕ) (n : ℕ) {k w : ℕ} → k ≡ kind_number ws n → 18 ≤ k → k < 20 → w ≡ width_at ws n → end_text ws n ≡ width_text w
unfolding end_text kinds
end-width ws n {k} {w} is-k h l e =
    rw (← is-k, e)
    (within (λ κ. end_of κ (word_at ws n 2) (word_at ws n 3) (width_at ws n) ≡ width_text (width_at ws n)) 18 2 (refl, (refl, tt)) k h l)

-- ---- nodes of a pool

-- the tree of an operand, if that has a smaller number
abbrev operand_tree : List ℕ → ℕ → ℕ → Expr
operand_tree ws n m = earlier (ltb m n) (unfold_at ws m)

text-is : (ws : List ℕ) (n : ℕ)
    → text ws n ≡ display (shape_of (kind_at (kind_number ws n)) (cell_at ws n) (operand_tree ws n (op_a ws n)) (operand_tree ws n (op_b ws n)) (operand_tree ws n (op_c ws n)))
unfolding text
text-is ws n = ap display (unfold-step ws n (cell_at ws n) refl)

found : (ws : List ℕ) (n m : ℕ) → m < n → display (operand_tree ws n m) ≡ text ws m
unfolding text
found ws n m l = rw (lt-ltb m n l)

module _ (ws : List ℕ) (n : ℕ) (r : Ready ws n) (k : ℕ) (is-k : k ≡ kind_number ws n) where
  tree : (κ : ℕ) → k ≡ κ
      → text ws n ≡ display (shape_of (kind_at κ) (cell_at ws n) (operand_tree ws n (op_a ws n)) (operand_tree ws n (op_b ws n)) (operand_tree ws n (op_c ws n)))
  tree κ e = text-is ws n ∙ rw (← is-k, e)

  pub whole-var : {x : ℕ} → k ≡ 1 → x ≡ word_at ws n 2 → text ws n ≡ display (Var x)
  unfolding kind_at kinds
  whole-var h e = rw e (tree 1 h)

  pub whole-const : {x y w : ℕ} → k ≡ 2 → x ≡ word_at ws n 2 → y ≡ word_at ws n 3 → w ≡ width_at ws n → text ws n ≡ display (Const (wide x y) w)
  unfolding kind_at kinds
  whole-const h ex ey ew = rw (ex, ey, ew) (tree 2 h)

  pub whole-ite : k ≡ 15
      → text ws n ≡ open_text k ++ (text ws (op_a ws n) ++ (bytes ", " ++ (text ws (op_b ws n) ++ (bytes ", " ++ (text ws (op_c ws n) ++ bytes ")")))))
  unfolding open_text kind_at kinds display
  whole-ite h =
      let fa = found ws n (op_a ws n) (ite-a ws n r k is-k h).before in
      let fb = found ws n (op_b ws n) (ite-b ws n r k is-k h).before in
      let fc = found ws n (op_c ws n) (ite-c ws n r k is-k h).before in
      rw (← fa, ← fb, ← fc, h) (tree 15 h)

  pub whole_pair : Pair k → text ws n ≡ open_text k ++ (text ws (op_a ws n) ++ (between_text k ++ (text ws (op_b ws n) ++ bytes ")")))
  unfolding open_text between_text
  whole_pair b =
      let fa = found ws n (op_a ws n) (pair-a ws n r k is-k b).before in
      let fb = found ws n (op_b ws n) (pair-b ws n r k is-k b).before in
      rw (← fa, ← fb) (tree k refl ∙ shape-pair _ _ _ _ b)

  pub whole-single : Single k → text ws n ≡ open_text k ++ (text ws (op_a ws n) ++ end_text ws n)
  unfolding open_text end_text
  whole-single s =
      let fa = found ws n (op_a ws n) (single-a ws n r k is-k s).before in
      rw (← fa, ← is-k) (tree k refl ∙ shape-single _ _ _ _ s (to-nineteen ws n r k is-k))

  -- of a comparison
  module _ (z : width_at ws n ≡ 0) where
    pub a-compare : Pair k
    a-compare =
        let h = compare-high ws n r k is-k z in
        record { from = compare-low ws n r k is-k z; to = omega arith; no-ite = λ e. omega arith; no_extract = λ e. omega arith }

    pub whole-compare : text ws n ≡ bytes "(" ++ (text ws (op_a ws n) ++ (between_text k ++ (text ws (op_b ws n) ++ bytes ")")))
    whole-compare = rw (bracket a-compare.from (compare-high ws n r k is-k z)) at (whole_pair a-compare)
