-- The operands of a node of a valid pool, by the number of its kind: what is needed to write its text. Assumes nothing.
use Prim.Native.Nat.{ℕ, zero, suc, ◌+◌, ◌*◌, ◌≤◌, ◌<◌}
use mathlib.Core.Path.{◌≡◌, refl, sym, ◌∙◌, subst}
use mathlib.Core.Bool.{Bool, true, false, ◌||◌, false≢true}
use mathlib.Core.List.{List}
use mathlib.Core.Logic.{◌⊎◌, inl, inr, ⊎_elim}
use native.Mathlib.Omega.{arith}
use native.Mathlib.Nat.{not-suc-le-zero, le_of_suc-le-suc, eq-or-lt_of_le}
use lib.Dec.{ltb, leb, eqb}
use lib.ListN.{length}
use borrow.Author.Tests.{lt-ltb, ltb-true, ltb-false, leb-true, leb-false, eqb-true, eqb-false}
use Rattle.terms.specs.declared.BinOp.TheVariants.{Add, Sub, Mul, And, Or, Xor, Shl, LShr, AShr}
use Rattle.terms.specs.declared.CmpOp.TheVariants.{Eq, Ult, Slt}
use Rattle.facts.proofs.Tests.{and_both}
use Rattle.pool.specs.Node.{bad, kinds, kind_at, Cell, cell_at, width_at, word_at, kind_number}
use Rattle.pool.specs.Rules.{width_before, ok_kind, ok_pool, Valid}
use Rattle.pool.proofs.Facts.{valid-node}
use Rattle.pool_rules.proofs.Numbers.{within, is-bad}
use Rattle.pool_fields.specs.Fields.{op_a, op_b, op_c}
use Rattle.text_parts.specs.Text.{Ready, single}
use Rattle.pool_rules.proofs.Kept.{Ok, Two, Three, One, register, bv-two, compare-two, ite-three, extract-one, extract-range, concat-two, zext-one, wide-bad, wide-var, wide-const, wide-bv, wide-ite}
use Rattle.pool_rules.proofs.Kept.{wide-extract, wide-concat, wide-zext, most-bad, most-var, most-const, most-bv, most-compare, most-ite, most-extract, most-concat, most-zext}

-- fewer nodes of a valid pool are a valid pool
valid-less : (ws : List ℕ) (k j : ℕ) → j ≤ k → Valid ws k → Valid ws j
unfolding ok_pool
valid-less ws zero zero l v = v
valid-less ws zero (suc j) l v = absurd (not-suc-le-zero l)
valid-less ws (suc k) j l v =
    ⊎_elim (λ e. subst (λ (m : ℕ). Valid ws m) (sym e) v) (λ h. valid-less ws k j (le_of_suc-le-suc h) (and_both _ _ v).0) (eq-or-lt_of_le l)

pub ready-less : {ws : List ℕ} {n m : ℕ} → m < n → Ready ws n → Ready ws m
ready-less {ws} {n} {m} l r = record { inside = omega (arith, r.inside); valid = valid-less ws (n + 1) (m + 1) (omega arith) r.valid }

pub ready_of : (ws : List ℕ) (count n : ℕ) → Valid ws count → n < count → 4 * count ≤ length ws → Ready ws n
ready_of ws count n v l h = record { inside = omega arith; valid = valid-less ws count (n + 1) (omega arith) v }

-- the widths of node n's operands
abbrev wa : List ℕ → ℕ → ℕ
wa ws n = width_before ws n (op_a ws n)

abbrev wb : List ℕ → ℕ → ℕ
wb ws n = width_before ws n (op_b ws n)

abbrev wc : List ℕ → ℕ → ℕ
wc ws n = width_before ws n (op_c ws n)

-- the rules of node n, by its kind
rules : (ws : List ℕ) (n : ℕ) → Ready ws n
    → ok_kind (kind_at (kind_number ws n)) n (cell_at ws n) (wa ws n) (wb ws n) (wc ws n) ≡ true
rules ws n r = valid-node ws (n + 1) n r.valid (omega arith)

-- the width of an earlier node is read
seen : (ws : List ℕ) (n m : ℕ) → m < n → width_before ws n m ≡ width_at ws m
seen ws n m l = rw (lt-ltb m n l)

-- ---- by the number κ of the kind

module _ (n : ℕ) (k : Cell) (A B C : ℕ) where
  most-of : (k.a < n → A ≤ 129) → (κ : ℕ) → κ < 20 → Ok n k A B C (kind_at κ) → k.width ≤ 129
  unfolding kinds
  most-of small κ l =
      let v = most-var n k A B C small in
      let d = most-const n k A B C small in
      let b = most-bv n k A B C small in
      let c = most-compare n k A B C small in
      let i = most-ite n k A B C small in
      let e = most-extract n k A B C small in
      let j = most-concat n k A B C small in
      let z = most-zext n k A B C small in
      within (λ κ. Ok n k A B C κ → k.width ≤ 129) 0 20
      (most-bad n k A B C small, (v, (d, (b Add, (b Sub, (b Mul, (b And, (b Or, (b Xor, (b Shl, (b LShr, (b AShr, (c Eq, (c Ult, (c Slt, (i, (e, (j, (z, (z, tt))))))))))))))))))))
      κ (omega arith) (omega arith)

  wide_low : (κ : ℕ) → κ < 12 → Ok n k A B C (kind_at κ) → 1 ≤ k.width
  unfolding kinds
  wide_low κ l =
      let b = wide-bv n k A B C in
      within (λ κ. Ok n k A B C κ → 1 ≤ k.width) 0 12
      (wide-bad n k A B C, (wide-var n k A B C, (wide-const n k A B C, (b Add, (b Sub, (b Mul, (b And, (b Or, (b Xor, (b Shl, (b LShr, (b AShr, tt))))))))))))
      κ (omega arith) (omega arith)

  wide_high : (κ : ℕ) → 15 ≤ κ → κ < 20 → Ok n k A B C (kind_at κ) → 1 ≤ k.width
  unfolding kinds
  wide_high κ h l =
      within (λ κ. Ok n k A B C κ → 1 ≤ k.width) 15 5
      (wide-ite n k A B C, (wide-extract n k A B C, (wide-concat n k A B C, (wide-zext n k A B C, (wide-zext n k A B C, tt)))))
      κ h (omega arith)

  two-of : (κ : ℕ) → 3 ≤ κ → κ < 15 → Ok n k A B C (kind_at κ) → Two n k A B C
  unfolding kinds
  two-of κ h l =
      let b = bv-two n k A B C in
      let c = compare-two n k A B C in
      within (λ κ. Ok n k A B C κ → Two n k A B C) 3 12
      (b Add, (b Sub, (b Mul, (b And, (b Or, (b Xor, (b Shl, (b LShr, (b AShr, (c Eq, (c Ult, (c Slt, tt))))))))))))
      κ h (omega arith)

  -- an extension's operand and width
  extend-of : (κ : ℕ) → 18 ≤ κ → κ < 20 → Ok n k A B C (kind_at κ) → One n k A B C
  unfolding kinds
  extend-of κ h l = within (λ κ. Ok n k A B C κ → One n k A B C) 18 2 (zext-one n k A B C, (zext-one n k A B C, tt)) κ h (omega arith)

-- ---- nodes of a pool

kind-below : (ws : List ℕ) (n : ℕ) → Ready ws n → kind_number ws n < 20
kind-below ws n r = go (ltb (kind_number ws n) 20) refl
  where
    go : (t : Bool) → ltb (kind_number ws n) 20 ≡ t → kind_number ws n < 20
    go true e = ltb-true _ _ e
    go false e = absurd (false≢true (rw (is-bad (kind_number ws n) (ltb-false _ _ e)) at (rules ws n r)))

none : (κ : ℕ) → κ ≤ 0 → kind_at κ ≡ bad
unfolding kind_at kinds
none κ l = let e : κ ≡ 0 = omega arith in rw e

kind-above : (ws : List ℕ) (n : ℕ) → Ready ws n → 1 ≤ kind_number ws n
kind-above ws n r = go (ltb 0 (kind_number ws n)) refl
  where
    go : (t : Bool) → ltb 0 (kind_number ws n) ≡ t → 1 ≤ kind_number ws n
    go true e = ltb-true _ _ e
    go false e = absurd (false≢true (rw (none (kind_number ws n) (ltb-false _ _ e)) at (rules ws n r)))

-- no width is above 129
most : (ws : List ℕ) (f n : ℕ) → n < f → Ready ws n → width_at ws n ≤ 129
most ws zero n l r = absurd (not-suc-le-zero l)
most ws (suc f) n l r =
    most-of n (cell_at ws n) (wa ws n) (wb ws n) (wc ws n)
    (λ h. rw (seen ws n (op_a ws n) h) (most ws f (op_a ws n) (omega arith) (ready-less h r)))
    (kind_number ws n) (kind-below ws n r) (rules ws n r)

width-most : (ws : List ℕ) (n : ℕ) → Ready ws n → width_at ws n ≤ 129
width-most ws n r = most ws (suc n) n (omega arith) r

-- a node with no width is a comparison
pub condition-kind : (ws : List ℕ) (n : ℕ) → Ready ws n → width_at ws n ≡ 0 → (12 ≤ kind_number ws n) × (kind_number ws n < 15)
condition-kind ws n r z = (go (ltb (kind_number ws n) 12) refl, up (ltb (kind_number ws n) 15) refl)
  where
    go : (t : Bool) → ltb (kind_number ws n) 12 ≡ t → 12 ≤ kind_number ws n
    go true e =
        absurd (omega (arith, z, wide_low n (cell_at ws n) (wa ws n) (wb ws n) (wc ws n) (kind_number ws n) (ltb-true _ _ e) (rules ws n r)))
    go false e = ltb-false _ _ e

    up : (t : Bool) → ltb (kind_number ws n) 15 ≡ t → kind_number ws n < 15
    up true e = ltb-true _ _ e
    up false e =
        absurd (omega (arith, z, wide_high n (cell_at ws n) (wa ws n) (wb ws n) (wc ws n) (kind_number ws n) (ltb-false _ _ e) (kind-below ws n r) (rules ws n r)))

-- ---- what a node's operands are, from the number k of its kind that code has read

-- m, before n, is a vector term; it is a condition
pub record Term (ws : List ℕ) (n m : ℕ) : Type 0 where
  pub before : m < n
  pub ready : Ready ws m
  pub wide : 1 ≤ width_at ws m

pub record Condition (ws : List ℕ) (n m : ℕ) : Type 0 where
  pub before : m < n
  pub ready : Ready ws m
  pub flat : width_at ws m ≡ 0

-- 3 to 14, or 17
pub record Pair (k : ℕ) : Type 0 where
  pub from : 3 ≤ k
  pub to : k < 18
  pub no-ite : k ≡ 15 → ⊥
  pub no_extract : k ≡ 16 → ⊥

-- 16, or 18 and more
pub record Single (k : ℕ) : Type 0 where
  pub from : 16 ≤ k
  pub no-concat : k ≡ 17 → ⊥

pub is-single : (k : ℕ) → single k ≡ true → Single k
is-single k h = go (eqb k 16) refl h
  where
    go : (t : Bool) → eqb k 16 ≡ t → (t || leb 18 k) ≡ true → Single k
    go true e q = let i : k ≡ 16 = eqb-true k 16 e in record { from = omega arith; no-concat = λ f. omega arith }
    go false e q = let l : 18 ≤ k = leb-true 18 k q in record { from = omega arith; no-concat = λ f. omega arith }

pub is-pair : (k : ℕ) → 3 ≤ k → (k ≡ 15 → ⊥) → single k ≡ false → Pair k
is-pair k l i h = go (eqb k 16) refl h
  where
    go : (t : Bool) → eqb k 16 ≡ t → (t || leb 18 k) ≡ false → Pair k
    go true e q = absurd (false≢true (sym q))
    go false e q = record { from = l; to = leb-false 18 k q; no-ite = i; no_extract = eqb-false k 16 e }

-- a Pair is one of 3 to 14, or 17; a Single is 16, or 18 and more
pub pair-kinds : {k : ℕ} → Pair k → (k < 15) ⊎ (k ≡ 17)
pair-kinds {k} b = go (ltb k 15) refl
  where
    go : (t : Bool) → ltb k 15 ≡ t → (k < 15) ⊎ (k ≡ 17)
    go true e = inl (ltb-true k 15 e)
    go false e = let l : 15 ≤ k = ltb-false k 15 e in inr (omega (arith, b.no-ite, b.no_extract, b.to))

pub single-kinds : {k : ℕ} → Single k → (k ≡ 16) ⊎ (18 ≤ k)
single-kinds {k} s = ⊎_elim (λ e. inl (sym e)) (λ l. inr (omega (arith, s.no-concat))) (eq-or-lt_of_le s.from)

pub from-18 : {k : ℕ} → Single k → (k ≡ 16 → ⊥) → 18 ≤ k
from-18 s h = ⊎_elim (λ e. absurd (h e)) (λ l. l) (single-kinds s)

module _ (ws : List ℕ) (n : ℕ) (r : Ready ws n) (k : ℕ) (is-k : k ≡ kind_number ws n) where
  term : {m : ℕ} → m < n → 1 ≤ width_before ws n m → Term ws n m
  term {m} l w = record { before = l; ready = ready-less l r; wide = rw (seen ws n m l) at w }

  pub to-nineteen : k < 20
  to-nineteen = omega (arith, kind-below ws n r)

  -- of Var and Const
  pub is-const : k < 3 → (k ≡ 1 → ⊥) → k ≡ 2
  is-const l h = omega (arith, kind-above ws n r)

  pub compare-low : width_at ws n ≡ 0 → 3 ≤ k
  compare-low z = omega (arith, (condition-kind ws n r z).0)

  pub compare-high : width_at ws n ≡ 0 → k < 15
  compare-high z = omega (arith, (condition-kind ws n r z).1)

  at-kind : (κ : ℕ) → k ≡ κ → Ok n (cell_at ws n) (wa ws n) (wb ws n) (wc ws n) (kind_at κ)
  at-kind κ h = subst (λ (m : ℕ). Ok n (cell_at ws n) (wa ws n) (wb ws n) (wc ws n) (kind_at m)) (sym is-k ∙ h) (rules ws n r)

  three : k ≡ 15 → Three n (cell_at ws n) (wa ws n) (wb ws n) (wc ws n)
  unfolding kind_at kinds
  three h = ite-three n (cell_at ws n) (wa ws n) (wb ws n) (wc ws n) (at-kind 15 h)

  two : Pair k → Two n (cell_at ws n) (wa ws n) (wb ws n) (wc ws n)
  unfolding kind_at kinds
  two b =
      ⊎_elim (λ l. two-of n (cell_at ws n) (wa ws n) (wb ws n) (wc ws n) k b.from l (at-kind k refl))
      (λ e. concat-two n (cell_at ws n) (wa ws n) (wb ws n) (wc ws n) (at-kind 17 e))
      (pair-kinds b)

  one : Single k → One n (cell_at ws n) (wa ws n) (wb ws n) (wc ws n)
  unfolding kind_at kinds
  one s =
      ⊎_elim (λ e. extract-one n (cell_at ws n) (wa ws n) (wb ws n) (wc ws n) (at-kind 16 e))
      (λ l. extend-of n (cell_at ws n) (wa ws n) (wb ws n) (wc ws n) k l to-nineteen (at-kind k refl))
      (single-kinds s)

  pub ite-a : k ≡ 15 → Condition ws n (op_a ws n)
  ite-a h =
      let t = three h in
      record { before = t.less-a; ready = ready-less t.less-a r; flat = sym (seen ws n (op_a ws n) t.less-a) ∙ t.cond-a }

  pub ite-b : k ≡ 15 → Term ws n (op_b ws n)
  ite-b h = term (three h).less-b (three h).term-b

  pub ite-c : k ≡ 15 → Term ws n (op_c ws n)
  ite-c h = term (three h).less-c (three h).term-c

  pub pair-a : Pair k → Term ws n (op_a ws n)
  pair-a b = term (two b).less-a (two b).term-a

  pub pair-b : Pair k → Term ws n (op_b ws n)
  pair-b b = term (two b).less-b (two b).term-b

  pub single-a : Single k → Term ws n (op_a ws n)
  single-a s = term (one s).less-a (one s).term-a

  -- of any kind but an Ite
  pub first-term : 3 ≤ k → (k ≡ 15 → ⊥) → Term ws n (op_a ws n)
  first-term h i = go (single k) refl
    where
      go : (t : Bool) → single k ≡ t → Term ws n (op_a ws n)
      go true e = single-a (is-single k e)
      go false e = pair-a (is-pair k h i e)

  -- numbers that are written in decimal
  pub register-small : k ≡ 1 → word_at ws n 2 < 1000
  unfolding kind_at kinds
  register-small h = omega (arith, register n (cell_at ws n) (wa ws n) (wb ws n) (wc ws n) (at-kind 1 h))

  pub range_small : k ≡ 16 → (word_at ws n 2 < 1000) × (word_at ws n 3 < 1000)
  unfolding kind_at kinds
  range_small h =
      let o = extract-one n (cell_at ws n) (wa ws n) (wb ws n) (wc ws n) (at-kind 16 h) in
      let t = extract-range n (cell_at ws n) (wa ws n) (wb ws n) (wc ws n) (at-kind 16 h) in
      let m = width-most ws (op_a ws n) (ready-less o.less-a r) in
      let b = rw (seen ws n (op_a ws n) o.less-a) at t.1 in
      (omega (arith, m, b), omega (arith, m, b, t.0))

  pub width_small : width_at ws n < 1000
  width_small = omega (arith, width-most ws n r)
