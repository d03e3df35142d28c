-- Terms that are listed, terms that wait, and nodes without a number. Assumes nothing.
use mathlib.Core.Path.{◌≡◌, refl, sym, ap, ◌∙◌}
use mathlib.Core.Bool.{Bool, true, false, cond}
use mathlib.Core.List.{List, [], ◌∷◌, ◌++◌}
use Prim.Native.Nat.{ℕ, zero, suc, ◌+◌, ◌≤◌, ◌<◌}
use native.Mathlib.Omega.{arith}
use lib.Dec.{eqb, ltb}
use lib.ListN.{length, get_or, set, length-append, get_or-append}
use lib.Seq.{get_or-set_same, get_or-set_other}
use borrow.Author.Tests.{eq-eqb, ne_eqb, eqb-true, eqb-false, ltb-true, ltb-false}
use Rattle.terms.specs.Expr.{Expr, Var}
use Rattle.pool.specs.Node.{kind_number, none}
use Rattle.pool_fields.specs.Fields.{op_a, op_b, op_c}
use Rattle.pool.specs.Unfold.{unfold_at}
use Rattle.pool_operands.specs.Operands.{has_a, has_b, has_c}
use Rattle.canonical.specs.Order.{walk, add_all}
use Rattle.canonical.proofs.Trees.{at}
use Rattle.canonical_order.specs.Walk.{pick, class_a, class_b, class_c, next_open, listed, pending, unnumbered}

-- ---- listed

pub listed-length : (ws order : List ℕ) (k : ℕ) → length (listed ws order k) ≡ k
unfolding listed
listed-length ws order zero = refl
listed-length ws order (suc k) = omega (arith, length-append (listed ws order k) (unfold_at ws (get_or order k 0) ∷ []), listed-length ws order k)

pub listed_same : (ws o p : List ℕ) (k : ℕ) → ((j : ℕ) → j < k → get_or o j 0 ≡ get_or p j 0) → listed ws o k ≡ listed ws p k
unfolding listed
listed_same ws o p zero f = refl
listed_same ws o p (suc k) f =
    let e : get_or o k 0 ≡ get_or p k 0 = f k (omega arith) in
    let r : listed ws o k ≡ listed ws p k = listed_same ws o p k (λ j h. f j (omega arith)) in
    λ i. r i ++ (unfold_at ws (e i) ∷ [])

at_last : (l : List Expr) (t : Expr) (k : ℕ) → length l ≡ k → at (l ++ (t ∷ [])) k ≡ t
at_last [] t k h = rw (sym h) refl
at_last (x ∷ l) t zero h = absurd (omega arith)
at_last (x ∷ l) t (suc k) h = at_last l t k (omega arith)

pub listed_at : (ws order : List ℕ) (k j : ℕ) → j < k → at (listed ws order k) j ≡ unfold_at ws (get_or order j 0)
unfolding listed
listed_at ws order zero j h = absurd (omega arith)
listed_at ws order (suc k) j h = go (λ l. listed_at ws order k j l) (ltb j k) refl
  where
    L : List Expr
    L = listed ws order k

    go : (j < k → at (listed ws order k) j ≡ unfold_at ws (get_or order j 0)) → (t : Bool) → ltb j k ≡ t → at (listed ws order k ++ (unfold_at ws (get_or order k 0) ∷ [])) j ≡ unfold_at ws
        (get_or order j 0)
    go f true e =
        let g : j < k = ltb-true j k e in
        get_or-append (listed ws order k) (unfold_at ws (get_or order k 0) ∷ []) (Var 0) j (omega (arith, listed-length ws order k)) ∙ f g
    go f false e =
        let g : k ≤ j = ltb-false j k e in
        let q : j ≡ k = omega arith in
        rw q (at_last (listed ws order k) (unfold_at ws (get_or order k 0)) k (listed-length ws order k))

-- ---- pending

pub pending-same : (ws s t : List ℕ) (d : ℕ) (l : List Expr) → ((i : ℕ) → i < d → get_or s i 0 ≡ get_or t i 0) → pending ws s d l ≡ pending ws t d l
unfolding pending
pending-same ws s t zero l f = refl
pending-same ws s t (suc d) l f =
    ap (λ (n : ℕ). pending ws s d (add_all l (walk (unfold_at ws n)))) (f d (omega arith))
    ∙ pending-same ws s t d (add_all l (walk (unfold_at ws (get_or t d 0)))) (λ i h. f i (omega arith))

-- ---- without a number

pub none-all : (number : List ℕ) (n : ℕ) → ((m : ℕ) → m < n → get_or number m 0 ≡ 65535) → unnumbered number n ≡ n
unfolding unnumbered
none-all number zero f = refl
none-all number (suc n) f =
    rw (eq-eqb (get_or number n 0) 65535 (f n (omega arith)), none-all number n (λ m h. f m (omega arith))) (omega arith)

pub none-same : (a b : List ℕ) (n : ℕ) → ((m : ℕ) → m < n → get_or a m 0 ≡ get_or b m 0) → unnumbered a n ≡ unnumbered b n
unfolding unnumbered
none-same a b zero f = refl
none-same a b (suc n) f =
    let e : get_or a n 0 ≡ get_or b n 0 = f n (omega arith) in
    let r = none-same a b n (λ m h. f m (omega arith)) in
    λ i. cond (eqb (e i) 65535) 1 0 + r i

-- one of those below n gets a number
pub none-less : (number : List ℕ) (n m v : ℕ) → m < n → m < length number → get_or number m 0 ≡ 65535 → (v ≡ 65535 → ⊥)
    → unnumbered (set number m v) n + 1 ≡ unnumbered number n
unfolding unnumbered
none-less number zero m v h l e f = absurd (omega arith)
none-less number (suc n) m v h l e f = go (λ g. none-less number n m v g l e f) (eqb m n) refl
  where
    go : (m < n → unnumbered (set number m v) n + 1 ≡ unnumbered number n) → (t : Bool) → eqb m n ≡ t
        → cond (eqb (get_or (set number m v) n 0) 65535) 1 0 + unnumbered (set number m v) n + 1 ≡ cond (eqb (get_or number n 0) 65535) 1 0 + unnumbered number n
    go r true q =
        let p : m ≡ n = eqb-true m n q in
        let a : get_or (set number m v) n 0 ≡ v = ap (λ (i : ℕ). get_or (set number m v) i 0) (sym p) ∙ get_or-set_same number m v 0 l in
        let b : get_or number n 0 ≡ 65535 = ap (λ (i : ℕ). get_or number i 0) (sym p) ∙ e in
        let s : unnumbered (set number m v) n ≡ unnumbered number n = none-same (set number m v) number n (λ i g. get_or-set_other number m i v 0 (omega arith)) in
        rw (a, b, ne_eqb v 65535 f, s) (omega arith)
    go r false q =
        let p : m ≡ n → ⊥ = eqb-false m n q in
        let a : get_or (set number m v) n 0 ≡ get_or number n 0 = get_or-set_other number m n v 0 (λ z. p (sym z)) in
        rw a (omega (arith, r (omega arith)))

pub none-some : (number : List ℕ) (n m : ℕ) → m < n → get_or number m 0 ≡ 65535 → 0 < unnumbered number n
unfolding unnumbered
none-some number zero m h e = absurd (omega arith)
none-some number (suc n) m h e = go (λ g. none-some number n m g e) (eqb m n) refl
  where
    go : (m < n → 0 < unnumbered number n) → (t : Bool) → eqb m n ≡ t → 0 < cond (eqb (get_or number n 0) 65535) 1 0 + unnumbered number n
    go r true q =
        let b : get_or number n 0 ≡ 65535 = ap (λ (i : ℕ). get_or number i 0) (sym (eqb-true m n q)) ∙ e in
        rw b (omega arith)
    go r false q = let p : m ≡ n → ⊥ = eqb-false m n q in omega (arith, r (omega arith))

-- ---- the first operand without a number, from its parts
pub open_made : (ws class number : List ℕ) (n kind : ℕ) (p q r : Bool) (a b c ca cb cc w x y z : ℕ) → kind ≡ kind_number ws n → p ≡ has_a kind → q ≡ has_b kind → r ≡ has_c kind
    → a ≡ op_a ws n
    → b ≡ op_b ws n
    → c ≡ op_c ws n
    → ca ≡ get_or class a 0
    → cb ≡ get_or class b 0
    → cc ≡ get_or class c 0
    → w ≡ none
    → x ≡ pick r cc number w
    → y ≡ pick q cb number x
    → z ≡ pick p ca number y
    → z ≡ next_open ws class number n
unfolding next_open
open_made ws class number n kind p q r a b c ca cb cc w x y z ek ep eq er ea eb ec ga gb gc ew ex ey ez =
    let ha : p ≡ has_a (kind_number ws n) = ep ∙ ap has_a ek in
    let hb : q ≡ has_b (kind_number ws n) = eq ∙ ap has_b ek in
    let hc : r ≡ has_c (kind_number ws n) = er ∙ ap has_c ek in
    let fa : ca ≡ class_a ws class n = ga ∙ (λ i. get_or class (ea i) 0) in
    let fb : cb ≡ class_b ws class n = gb ∙ (λ i. get_or class (eb i) 0) in
    let fc : cc ≡ class_c ws class n = gc ∙ (λ i. get_or class (ec i) 0) in
    ez ∙ (λ i. pick (ha i) (fa i) number ((ey ∙ (λ i. pick (hb i) (fb i) number ((ex ∙ (λ i. pick (hc i) (fc i) number (ew i))) i))) i))
