-- The value of a node from those of its operands, and the rules that its operands' values keep. Assumes nothing.
use Prim.Native.Nat.{ℕ, ◌+◌, ◌*◌, ◌^◌, ◌≤◌, ◌<◌}
use mathlib.Core.Path.{◌≡◌, refl, sym, ap, ◌∙◌, subst}
use mathlib.Core.Bool.{Bool, true, false, cond}
use mathlib.Core.List.{List}
use mathlib.Core.Logic.{⊎_elim}
use native.Mathlib.Omega.{arith}
use lib.Dec.{ltb}
use lib.ListN.{get_or}
use lib.Arith.{digits_lt}
use borrow.Author.Tests.{lt-ltb}
use Rattle.terms.specs.Expr.{Expr, width}
use Rattle.terms.specs.Value.{value}
use Rattle.terms.specs.Rules.{Good}
use Rattle.pool.specs.Node.{Kind, bad, var, const, bv, compare, ite, extract, concat, zext, sext, kinds, kind_at, Cell, cell_at, width_at, word_at, kind_number, wide}
use Rattle.pool.specs.Unfold.{shape_of, earlier, unfold_at}
use Rattle.pool.proofs.Laws.{unfold-step}
use Rattle.pool.proofs.Facts.{good-wide}
use Rattle.pool_check.proofs.Sound.{sound}
use Rattle.pool_rules.proofs.Numbers.{within}
use Rattle.pool_fields.specs.Fields.{op_a, op_b, op_c}
use Rattle.text_parts.specs.Text.{Ready, single}
use Rattle.text_parts.proofs.Operands.{Pair, Single, pair-kinds, single-kinds, is-single, is-pair, to-nineteen, pair-a, pair-b, single-a}
use Rattle.trees_value.proofs.Range.{value-lt}
use Rattle.wide.specs.Number.{base, words}
use Rattle.wide.specs.Registers.{registers_of}
use Rattle.evaluate.specs.Visits.{value_at}
use Rattle.evaluate.specs.Step.{node_value, OperandsOf, OperandsAt, applied_at, second_width, InWords}

-- a kind with one operand, and with two
abbrev OneK : Kind → Type 0
OneK bad = ⊥
OneK var = ⊥
OneK const = ⊥
OneK (bv o) = ⊥
OneK (compare o) = ⊥
OneK ite = ⊥
OneK extract = Unit {0}
OneK concat = ⊥
OneK zext = Unit {0}
OneK sext = Unit {0}

abbrev TwoK : Kind → Type 0
TwoK bad = ⊥
TwoK var = ⊥
TwoK const = ⊥
TwoK (bv o) = Unit {0}
TwoK (compare o) = Unit {0}
TwoK ite = ⊥
TwoK extract = ⊥
TwoK concat = Unit {0}
TwoK zext = ⊥
TwoK sext = ⊥

module _ (r : ℕ → ℕ) (bits : (x : ℕ) → x < 32 → r x < 2 ^ 128) (k : Cell) (a b c : Expr) where
  one_value : (κ : Kind) → OneK κ → (wb vb : ℕ) → value r (shape_of κ k a b c) ≡ node_value κ (width a) wb k.width k.x k.y (value r a) vb
  unfolding value
  one_value bad p wb vb = absurd p
  one_value var p wb vb = absurd p
  one_value const p wb vb = absurd p
  one_value (bv o) p wb vb = absurd p
  one_value (compare o) p wb vb = absurd p
  one_value ite p wb vb = absurd p
  one_value extract p wb vb = refl
  one_value concat p wb vb = absurd p
  one_value zext p wb vb = refl
  one_value sext p wb vb = refl

  two-value : (κ : Kind) → TwoK κ → value r (shape_of κ k a b c) ≡ node_value κ (width a) (width b) k.width k.x k.y (value r a) (value r b)
  unfolding value
  two-value bad p = absurd p
  two-value var p = absurd p
  two-value const p = absurd p
  two-value (bv o) p = refl
  two-value (compare o) p = refl
  two-value ite p = absurd p
  two-value extract p = absurd p
  two-value concat p = refl
  two-value zext p = absurd p
  two-value sext p = absurd p

  one-operand : (κ : Kind) → OneK κ → (wb vb : ℕ) → Good (shape_of κ k a b c) → OperandsOf κ (width a) wb k.width k.x k.y (value r a) vb
  unfolding Good
  one-operand bad p wb vb g = absurd p
  one-operand var p wb vb g = absurd p
  one-operand const p wb vb g = absurd p
  one-operand (bv o) p wb vb g = absurd p
  one-operand (compare o) p wb vb g = absurd p
  one-operand ite p wb vb g = absurd p
  one-operand extract p wb vb g = (g.1, omega (arith, g.2, good-wide a g.0))
  one-operand concat p wb vb g = absurd p
  one-operand zext p wb vb g = tt
  one-operand sext p wb vb g = (g.1, g.2, g.3, value-lt r bits a g.0 g.1)

  two_operands : (κ : Kind) → TwoK κ → Good (shape_of κ k a b c) → OperandsOf κ (width a) (width b) k.width k.x k.y (value r a) (value r b)
  unfolding Good
  two_operands bad p g = absurd p
  two_operands var p g = absurd p
  two_operands const p g = absurd p
  two_operands (bv o) p g = (g.3, good-wide a g.0, value-lt r bits a g.0 g.3, rw g.2 (value-lt r bits b g.1 (rw (← g.2) g.3)))
  two_operands (compare o) p g = (g.3, good-wide a g.0)
  two_operands ite p g = absurd p
  two_operands extract p g = absurd p
  two_operands concat p g = (g.4, value-lt r bits a g.0 g.2, value-lt r bits b g.1 g.3)
  two_operands zext p g = absurd p
  two_operands sext p g = absurd p

-- registers of 128 bits
small : (B x y : ℕ) → x < B → y < B → x + B * (y + B * 0) < B * B
small B x y h k = omega (arith, digits_lt {q = y} {m = B} {r = x} {c = B} k h)

pub start-bits : (regs : List ℕ) → InWords regs → (x : ℕ) → x < 32 → registers_of regs x < 2 ^ 128
unfolding words
start-bits regs h x l = small base (get_or regs (2 * x) 0) (get_or regs (2 * x + 1) 0) (h (2 * x)) (h (2 * x + 1))

one-kind : {k : ℕ} → Single k → k < 20 → OneK (kind_at k)
unfolding kinds kind_at
one-kind {k} s l = ⊎_elim (λ e. rw e tt) (λ h. within OneK 18 2 (tt, (tt, tt)) k h l) (single-kinds s)

two-kind : {k : ℕ} → Pair k → TwoK (kind_at k)
unfolding kinds kind_at
two-kind {k} b = ⊎_elim (λ l. within TwoK 3 12 (tt, (tt, (tt, (tt, (tt, (tt, (tt, (tt, (tt, (tt, (tt, (tt, tt)))))))))))) k b.from l) (λ e. rw e tt) (pair-kinds b)

-- the tree of an operand, if that has a smaller number
abbrev pub operand_tree : List ℕ → ℕ → ℕ → Expr
operand_tree ws n m = earlier (ltb m n) (unfold_at ws m)

pub found-value : (ws regs : List ℕ) (n : ℕ) {m : ℕ} → m < n → value (registers_of regs) (operand_tree ws n m) ≡ value_at ws regs m
unfolding value_at
found-value ws regs n {m} l = rw (lt-ltb m n l)

module _ (ws regs : List ℕ) (n : ℕ) (r : Ready ws n) (k : ℕ) (is-k : k ≡ kind_number ws n) where
  abbrev shaped : ℕ → Expr
  shaped κ = shape_of (kind_at κ) (cell_at ws n) (operand_tree ws n (op_a ws n)) (operand_tree ws n (op_b ws n)) (operand_tree ws n (op_c ws n))

  tree : unfold_at ws n ≡ shaped k
  tree = unfold-step ws n (cell_at ws n) refl ∙ ap shaped (sym is-k)

  good : Good (shaped k)
  good = subst Good tree (sound ws (n + 1) r.valid n (omega arith)).ok

  wide_of : {m : ℕ} → m < n → width (operand_tree ws n m) ≡ width_at ws m
  wide_of {m} l = rw (lt-ltb m n l) (sound ws (n + 1) r.valid m (omega arith)).wide

  pub leaf-var : k ≡ 1 → value_at ws regs n ≡ registers_of regs (word_at ws n 2)
  unfolding value_at value kind_at kinds
  leaf-var e = ap (value (registers_of regs)) (tree ∙ ap shaped e)

  pub leaf-register : k ≡ 1 → word_at ws n 2 < 32
  unfolding Good kind_at kinds
  leaf-register e = subst (λ (j : ℕ). Good (shaped j)) e good

  pub leaf-const : k ≡ 2 → value_at ws regs n ≡ wide (word_at ws n 2) (word_at ws n 3)
  unfolding value_at value kind_at kinds
  leaf-const e = ap (value (registers_of regs)) (tree ∙ ap shaped e)

  abbrev start : ℕ → ℕ
  start = registers_of regs

  abbrev a : Expr
  a = operand_tree ws n (op_a ws n)

  abbrev b : Expr
  b = operand_tree ws n (op_b ws n)

  abbrev c : Expr
  c = operand_tree ws n (op_c ws n)

  module _ (h : InWords regs) where
    module _ (e : single k ≡ true) (x : ℕ) where
      s : Single k
      s = is-single k e

      l : op_a ws n < n
      l = (single-a ws n r k is-k s).before

      pub one-is : value_at ws regs n ≡ applied_at ws n (value_at ws regs (op_a ws n)) x
      unfolding value_at
      one-is =
          rw (← wide_of l, ← found-value ws regs n l, ← is-k)
          (ap (value start) tree ∙ one_value start (start-bits regs h) (cell_at ws n) a b c (kind_at k) (one-kind s (to-nineteen ws n r k is-k)) (cond (single k) 0 (width_at ws (op_b ws n))) x)

      pub one_ok : OperandsAt ws n (value_at ws regs (op_a ws n)) x
      unfolding value_at
      one_ok =
          rw (← wide_of l, ← found-value ws regs n l, ← is-k)
          (one-operand start (start-bits regs h) (cell_at ws n) a b c (kind_at k) (one-kind s (to-nineteen ws n r k is-k)) (cond (single k) 0 (width_at ws (op_b ws n))) x good)

    module _ (three : 3 ≤ k) (no : k ≡ 15 → ⊥) (e : single k ≡ false) where
      pair : Pair k
      pair = is-pair k three no e

      la : op_a ws n < n
      la = (pair-a ws n r k is-k pair).before

      lb : op_b ws n < n
      lb = (pair-b ws n r k is-k pair).before

      second_is : second_width ws n ≡ width b
      second_is = rw (← is-k, e) (sym (wide_of lb))

      pub two_is : value_at ws regs n ≡ applied_at ws n (value_at ws regs (op_a ws n)) (value_at ws regs (op_b ws n))
      unfolding value_at
      two_is =
          rw (second_is, ← wide_of la, ← found-value ws regs n la, ← found-value ws regs n lb, ← is-k)
          (ap (value start) tree ∙ two-value start (start-bits regs h) (cell_at ws n) a b c (kind_at k) (two-kind pair))

      pub two_ok : OperandsAt ws n (value_at ws regs (op_a ws n)) (value_at ws regs (op_b ws n))
      unfolding value_at
      two_ok =
          rw (second_is, ← wide_of la, ← found-value ws regs n la, ← found-value ws regs n lb, ← is-k)
          (two_operands start (start-bits regs h) (cell_at ws n) a b c (kind_at k) (two-kind pair) good)

-- values that code holds: of the first operand, and of the second if there is one
module _ (ws regs : List ℕ) (n : ℕ) (r : Ready ws n) (k : ℕ) (is-k : k ≡ kind_number ws n) (h : InWords regs) (three : 3 ≤ k) (no : k ≡ 15 → ⊥) {va vb : ℕ}
    (ea : va ≡ value_at ws regs (op_a ws n)) (eb : single k ≡ false → vb ≡ value_at ws regs (op_b ws n)) where
  pub held-ok : OperandsAt ws n va vb
  held-ok = go (single k) refl
    where
      go : (t : Bool) → single k ≡ t → OperandsAt ws n va vb
      go true e = rw ea (one_ok ws regs n r k is-k h e vb)
      go false e = rw (ea, eb e) (two_ok ws regs n r k is-k h three no e)

  pub held-is : applied_at ws n va vb ≡ value_at ws regs n
  held-is = go (single k) refl
    where
      go : (t : Bool) → single k ≡ t → applied_at ws n va vb ≡ value_at ws regs n
      go true e = rw ea (sym (one-is ws regs n r k is-k h e vb))
      go false e = rw (ea, eb e) (sym (two_is ws regs n r k is-k h three no e))

-- what code has read of a node stands for its parts
module _ (ws : List ℕ) (n k : ℕ) (is-k : k ≡ kind_number ws n) {wa w x y : ℕ} (ea : wa ≡ width_at ws (op_a ws n)) (ew : w ≡ width_at ws n)
    (ex : x ≡ word_at ws n 2) (ey : y ≡ word_at ws n 3) (a b : ℕ) where
  pub one-asks : single k ≡ true → OperandsAt ws n a b → OperandsOf (kind_at k) wa 0 w x y a b
  one-asks e o = rw (ea, ew, ex, ey) (rw (← is-k, e) at o)

  pub one-gives : single k ≡ true → node_value (kind_at k) wa 0 w x y a b ≡ applied_at ws n a b
  one-gives e = rw (ea, ew, ex, ey, ← is-k, e)

  pub two-asks : {wb : ℕ} → wb ≡ width_at ws (op_b ws n) → single k ≡ false → OperandsAt ws n a b → OperandsOf (kind_at k) wa wb w x y a b
  two-asks eb e o = rw (ea, eb, ew, ex, ey) (rw (← is-k, e) at o)

  pub two-gives : {wb : ℕ} → wb ≡ width_at ws (op_b ws n) → single k ≡ false → node_value (kind_at k) wa wb w x y a b ≡ applied_at ws n a b
  two-gives eb e = rw (ea, eb, ew, ex, ey, ← is-k, e)

pub two-words : (x y : ℕ) → words x y 0 ≡ wide x y
unfolding words
two-words x y = omega arith
