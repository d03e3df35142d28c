-- The value and the visits of a node by those of its operands, and what is left of an allowance. Assumes nothing.
use Prim.Native.Nat.{ℕ, zero, suc, ◌+◌, ◌-◌, ◌*◌, ◌≤◌, ◌<◌}
use mathlib.Core.Path.{◌≡◌, refl, sym, ap, ◌∙◌, subst}
use mathlib.Core.Bool.{Bool, true, false}
use mathlib.Core.List.{List}
use mathlib.Core.Logic.{⊎_elim}
use native.Mathlib.Omega.{arith}
use lib.Dec.{eqb}
use lib.ListN.{get_or}
use borrow.Author.Tests.{lt-ltb, eqb-true, eqb-false}
use Rattle.terms.specs.declared.CmpOp.TheVariants.{Eq, Ult, Slt}
use Rattle.terms.specs.declared.CmpOp.{CmpOp}
use Rattle.terms.specs.Expr.{Expr, Var, Const, Bv, Compare, Ite, Extract, Concat, ZeroExtend, SignExtend, width}
use Rattle.terms.specs.Value.{value, ite, bit, holds}
use Rattle.pool.specs.Node.{Kind, kinds, kind_at, cell_at, width_at, kind_number}
use Rattle.pool.specs.Unfold.{shape_of, unfold_at}
use Rattle.pool.proofs.Laws.{unfold-step}
use Rattle.pool_rules.proofs.Numbers.{within}
use Rattle.pool_fields.specs.Fields.{op_a, op_b, op_c}
use Rattle.text_parts.specs.Text.{Ready, single}
use Rattle.text_parts.proofs.Operands.{condition-kind, Pair, Single, pair-kinds, single-kinds, is-single, is-pair, to-nineteen, ite-a, ite-b, ite-c, pair-a, pair-b, single-a, first-term}
use Rattle.wide.specs.Number.{base, words}
use Rattle.wide.specs.Registers.{registers_of}
use Rattle.evaluate.specs.Visits.{visits, value_at, visits_at}
use Rattle.evaluate.specs.Step.{held, Visited}
use Rattle.evaluate.proofs.Values.{operand_tree, found-value}

module _ (ws regs : List ℕ) (n : ℕ) where
  abbrev shaped : Kind → Expr
  shaped κ = shape_of κ (cell_at ws n) (operand_tree ws n (op_a ws n)) (operand_tree ws n (op_b ws n)) (operand_tree ws n (op_c ws n))

  unfolds : unfold_at ws n ≡ shaped (kind_at (kind_number ws n))
  unfolds = unfold-step ws n (cell_at ws n) refl

  found-visits : {m : ℕ} → m < n → visits (registers_of regs) (operand_tree ws n m) ≡ visits_at ws regs m
  unfolding visits_at
  found-visits {m} l = rw (lt-ltb m n l)

visits-pos : (r : ℕ → ℕ) (t : Expr) → 1 ≤ visits r t
unfolding visits
visits-pos r (Var x) = omega arith
visits-pos r (Const v w) = omega arith
visits-pos r (Bv o a b) = omega arith
visits-pos r (Compare o a b) = omega arith
visits-pos r (Ite c a b) = omega arith
visits-pos r (Extract a hi lo) = omega arith
visits-pos r (Concat a b) = omega arith
visits-pos r (ZeroExtend a w) = omega arith
visits-pos r (SignExtend a w) = omega arith

one : (b : Bool) → bit b ≤ 1
one true = omega arith
one false = omega arith

compare-one : (r : ℕ → ℕ) (o : CmpOp) (a b : Expr) → value r (Compare o a b) ≤ 1
unfolding value
compare-one r o a b = one (holds o (width a) (value r a) (value r b))

module _ (ws regs : List ℕ) (n : ℕ) (r : Ready ws n) (k : ℕ) (is-k : k ≡ kind_number ws n) where
  abbrev start : ℕ → ℕ
  start = registers_of regs

  tree : (κ : ℕ) → k ≡ κ → visits_at ws regs n ≡ visits (registers_of regs) (shaped ws regs n (kind_at κ))
  unfolding visits_at
  tree κ e = ap (visits (registers_of regs)) (unfolds ws regs n ∙ ap (λ (j : ℕ). shaped ws regs n (kind_at j)) (sym is-k ∙ e))

  pub some : 1 ≤ visits_at ws regs n
  unfolding visits_at
  some = visits-pos (registers_of regs) (unfold_at ws n)

  pub visits-leaf : k < 3 → visits_at ws regs n ≡ 1
  unfolding kinds visits
  visits-leaf h = tree k refl ∙ within (λ κ. visits (registers_of regs) (shaped ws regs n κ) ≡ 1) 0 3 (refl, (refl, (refl, tt))) k (omega arith) h

  pub visits-single : Single k → visits_at ws regs n ≡ suc (visits_at ws regs (op_a ws n))
  unfolding kinds visits kind_at
  visits-single s =
      rw (← found-visits ws regs n (single-a ws n r k is-k s).before)
      (⊎_elim (λ e. tree 16 e)
      (λ l. tree k refl ∙ within (λ κ. visits start (shaped ws regs n κ) ≡ suc (visits start (operand_tree ws n (op_a ws n)))) 18 2 (refl, (refl, tt)) k l (to-nineteen ws n r k is-k))
      (single-kinds s))

  pub visits-pair : Pair k → visits_at ws regs n ≡ suc (visits_at ws regs (op_a ws n) + visits_at ws regs (op_b ws n))
  unfolding kinds visits kind_at
  visits-pair b =
      rw (← found-visits ws regs n (pair-a ws n r k is-k b).before, ← found-visits ws regs n (pair-b ws n r k is-k b).before)
      (⊎_elim
      (λ l. tree k refl
      ∙ within (λ κ. visits start (shaped ws regs n κ) ≡ suc (visits start (operand_tree ws n (op_a ws n)) + visits start (operand_tree ws n (op_b ws n)))) 3 12
      (refl, (refl, (refl, (refl, (refl, (refl, (refl, (refl, (refl, (refl, (refl, (refl, tt)))))))))))) k b.from l)
      (λ e. tree 17 e)
      (pair-kinds b))

  -- the operands of an Ite
  module _ (h : k ≡ 15) where
    la : op_a ws n < n
    la = (ite-a ws n r k is-k h).before

    lb : op_b ws n < n
    lb = (ite-b ws n r k is-k h).before

    lc : op_c ws n < n
    lc = (ite-c ws n r k is-k h).before

    pub visits-ite : visits_at ws regs n ≡ suc (visits_at ws regs (op_a ws n) + ite (value_at ws regs (op_a ws n)) (visits_at ws regs (op_b ws n)) (visits_at ws regs (op_c ws n)))
    unfolding kind_at kinds visits
    visits-ite = rw (← found-visits ws regs n la, ← found-visits ws regs n lb, ← found-visits ws regs n lc, ← found-value ws regs n la) (tree 15 h)

    pub value-ite : value_at ws regs n ≡ ite (value_at ws regs (op_a ws n)) (value_at ws regs (op_b ws n)) (value_at ws regs (op_c ws n))
    unfolding kind_at kinds
    value-ite =
        rw (← found-value ws regs n lb, ← found-value ws regs n lc, ← found-value ws regs n la)
        (unfold value_at value in ap (value start) (unfolds ws regs n ∙ ap (λ (j : ℕ). shaped ws regs n (kind_at j)) (sym is-k ∙ h)))

  -- a condition is 1 or 0
  pub flat-value : width_at ws n ≡ 0 → value_at ws regs n ≤ 1
  unfolding value_at kinds
  flat-value z =
      subst (λ (t : Expr). value (registers_of regs) t ≤ 1) (sym (unfolds ws regs n ∙ ap (λ (j : ℕ). shaped ws regs n (kind_at j)) (sym is-k)))
      (within (λ κ. value (registers_of regs) (shaped ws regs n κ) ≤ 1) 12 3
      (compare-one (registers_of regs) Eq _ _, (compare-one (registers_of regs) Ult _ _, (compare-one (registers_of regs) Slt _ _, tt))) k pair.0 pair.1)
    where
      pair : (12 ≤ k) × (k < 12 + 3)
      pair = let c = condition-kind ws n r z in (omega (arith, c.0), omega (arith, c.1))

-- a number of at most 1 is its lowest word
low_of : (x h : ℕ) → x + base * h ≤ 1 → x ≡ x + base * h
low_of x h l = omega arith

pub held_low : (v : List ℕ) (x : ℕ) → held v ≡ x → x ≤ 1 → get_or v 0 0 ≡ x
unfolding words
held_low v x e l = low_of (get_or v 0 0) (get_or v 1 0 + base * get_or v 2 0) (subst (λ (t : ℕ). t ≤ 1) (sym e) l) ∙ e

-- ---- what is left
module _ (ws regs : List ℕ) (n left : ℕ) where
  -- nothing is left
  pub spent : {out : List ℕ} → left + 1 ≤ visits_at ws regs n → Visited ws regs n left out 0
  spent h = record { left_is = omega arith; value_is = λ l. absurd (omega arith) }

  pub given : {out : List ℕ} {r : ℕ} → held out ≡ value_at ws regs n → r ≡ left + 1 - visits_at ws regs n → Visited ws regs n left out r
  given h e = record { left_is = e; value_is = λ l. h }

  module _ (r : Ready ws n) (k : ℕ) (is-k : k ≡ kind_number ws n) (some_left : 0 < left) where
    more : 3 ≤ k → suc (visits_at ws regs (op_a ws n)) ≤ visits_at ws regs n
    more h = go (eqb k 15) refl (single k) refl
      where
        go : (s : Bool) → eqb k 15 ≡ s → (t : Bool) → single k ≡ t → suc (visits_at ws regs (op_a ws n)) ≤ visits_at ws regs n
        go true e t f = omega (arith, visits-ite ws regs n r k is-k (eqb-true k 15 e))
        go false e true f = omega (arith, visits-single ws regs n r k is-k (is-single k f))
        go false e false f = omega (arith, visits-pair ws regs n r k is-k (is-pair k h (eqb-false k 15 e) f))

    -- the first operand took all
    pub first-spent : {out out' : List ℕ} {c : ℕ} → 3 ≤ k → Visited ws regs (op_a ws n) (left - 1) out c → c ≡ 0 → Visited ws regs n left out' 0
    first-spent h v z = spent (omega (arith, v.left_is, more h))

    -- an operand alone
    pub after_one : {out out' : List ℕ} {c : ℕ} → Single k → Visited ws regs (op_a ws n) (left - 1) out c → held out' ≡ value_at ws regs n → Visited ws regs n left out' c
    after_one s v e = given e (omega (arith, v.left_is, visits-single ws regs n r k is-k s))

    -- two operands
    pub after_two : {out b out' : List ℕ} {c d : ℕ} → Pair k → Visited ws regs (op_a ws n) (left - 1) out c → (c ≡ 0 → ⊥)
        → Visited ws regs (op_b ws n) (c - 1) b d
        → held out' ≡ value_at ws regs n
        → Visited ws regs n left out' d
    after_two p v z w e = given e (omega (arith, v.left_is, w.left_is, visits-pair ws regs n r k is-k p))

    pub second-spent : {out b out' : List ℕ} {c d : ℕ} → Pair k → Visited ws regs (op_a ws n) (left - 1) out c → (c ≡ 0 → ⊥)
        → Visited ws regs (op_b ws n) (c - 1) b d
        → d ≡ 0
        → Visited ws regs n left out' 0
    second-spent p v z w e = spent (omega (arith, v.left_is, w.left_is, visits-pair ws regs n r k is-k p))

    -- the arms of an Ite
    module _ (h : k ≡ 15) {out : List ℕ} {c : ℕ} (v : Visited ws regs (op_a ws n) (left - 1) out c) (z : c ≡ 0 → ⊥) where
      chosen : value_at ws regs (op_a ws n) ≡ get_or out 0 0
      chosen = sym (held_low out (value_at ws regs (op_a ws n)) (v.value_is (omega arith)) (flat-value ws regs (op_a ws n) (ite-a ws n r k is-k h).ready _ refl (ite-a ws n r k is-k h).flat))

      pub no_arm : {out' : List ℕ} {d : ℕ} → get_or out 0 0 ≡ 0 → Visited ws regs (op_c ws n) (c - 1) out' d → Visited ws regs n left out' d
      no_arm e w =
          let q : value_at ws regs (op_a ws n) ≡ 0 = chosen ∙ e in
          let x = rw q at (visits-ite ws regs n r k is-k h) in
          record { left_is = omega (arith, v.left_is, w.left_is, x); value_is = λ l. w.value_is l ∙ sym (rw q at (value-ite ws regs n r k is-k h)) }

      pub yes_arm : {out' : List ℕ} {d : ℕ} → (get_or out 0 0 ≡ 0 → ⊥) → Visited ws regs (op_b ws n) (c - 1) out' d → Visited ws regs n left out' d
      yes_arm {out'} {d} e w = go (value_at ws regs (op_a ws n)) refl
        where
          go : (x : ℕ) → value_at ws regs (op_a ws n) ≡ x → Visited ws regs n left out' d
          go zero q = absurd (e (sym chosen ∙ q))
          go (suc m) q =
              let x = rw q at (visits-ite ws regs n r k is-k h) in
              record { left_is = omega (arith, v.left_is, w.left_is, x); value_is = λ l. w.value_is l ∙ sym (rw q at (value-ite ws regs n r k is-k h)) }

-- an operand that is visited
pub record Earlier (ws : List ℕ) (n m : ℕ) : Type 0 where
  pub before : m < n
  pub ready : Ready ws m

pub first-operand : (ws : List ℕ) (n : ℕ) (r : Ready ws n) (k : ℕ) (is-k : k ≡ kind_number ws n) → 3 ≤ k → Earlier ws n (op_a ws n)
first-operand ws n r k is-k h = go (eqb k 15) refl
  where
    go : (s : Bool) → eqb k 15 ≡ s → Earlier ws n (op_a ws n)
    go true e = let c = ite-a ws n r k is-k (eqb-true k 15 e) in record { before = c.before; ready = c.ready }
    go false e = let c = first-term ws n r k is-k h (eqb-false k 15 e) in record { before = c.before; ready = c.ready }
