-- A pool's nodes one after the other. Assumes nothing.
use Prim.Native.Nat.{ℕ, zero, suc, ◌+◌, ◌≤◌, ◌<◌}
use mathlib.Core.Path.{◌≡◌, refl, ap, sym, ◌∙◌}
use mathlib.Core.Bool.{Bool, true, false, ◌&&◌, and-true, and-false, and_comm, or-true, or-false}
use mathlib.Core.List.{List}
use mathlib.Core.Logic.{⊎_elim}
use native.Mathlib.Nat.{eq-or-lt_of_le, le_of_suc-le-suc, not-suc-le-zero}
use native.Mathlib.Numerals.{add-one}
use native.Mathlib.Omega.{arith}
use lib.Dec.{ltb}
use borrow.Author.Tests.{lt-ltb, eq-eqb, ne_eqb}
use Rattle.pool.specs.Node.{zext, kinds, kind_at, kind_number}
use Rattle.pool.specs.Rules.{ok_node, ok_pool}
use Rattle.pool_rules.specs.Rule.{ok_as}
use Rattle.pool_check.specs.Plain.{plain_at, plain_from}
use Rattle.pool_rules.proofs.Numbers.{within, is-bad}

pub some-bad : (ws : List ℕ) (n count : ℕ) → n < count → ok_node ws n ≡ false → ok_pool ws count ≡ false
unfolding ok_pool
some-bad ws n zero l h = absurd (not-suc-le-zero l)
some-bad ws n (suc c) l h =
    ⊎_elim (λ e. second (ok_pool ws c) (ap (ok_node ws) (sym e) ∙ h)) (λ m. first (ok_node ws c) (some-bad ws n c m h)) (eq-or-lt_of_le (le_of_suc-le-suc l))
  where
    first : {a : Bool} (b : Bool) → a ≡ false → (a && b) ≡ false
    first b e = rw e

    second : (a : Bool) {b : Bool} → b ≡ false → (a && b) ≡ false
    second true e = e
    second false e = refl

-- the rules of the kind that the node's number names
pub by_number : (ws : List ℕ) (n : ℕ) {k : ℕ} {r : Bool} → k ≡ kind_number ws n → r ≡ ok_as (kind_at k) ws n → r ≡ ok_node ws n
by_number ws n e h = h ∙ rw e

-- both extensions have one rule
pub extension : (ws : List ℕ) (n k : ℕ) → 18 ≤ k → k ≤ 19 → ok_as zext ws n ≡ ok_as (kind_at k) ws n
unfolding kinds
extension ws n k l h = within (λ κ. ok_as zext ws n ≡ ok_as κ ws n) 18 2 (refl, (refl, tt)) k l (omega (arith, h))

-- a number of no kind
pub no_kind : (ws : List ℕ) (n k : ℕ) → 19 < k → false ≡ ok_as (kind_at k) ws n
no_kind ws n k l = rw (is-bad k (omega (arith, l)))

pub one_more : (ws : List ℕ) (n : ℕ) → ok_pool ws n ≡ true → ok_node ws n ≡ true → ok_pool ws (n + 1) ≡ true
unfolding ok_pool
one_more ws n p q = rw (add-one n, p, q)

pub none : (ws : List ℕ) → ok_pool ws 0 ≡ true
unfolding ok_pool
none ws = refl

-- ---- with the rule of Vars

-- of a node that is no Var nothing more is asked
pub no-var : (ws : List ℕ) (p n : ℕ) {k : ℕ} {r : Bool} → k ≡ kind_number ws n → (k ≡ 1 → ⊥) → r ≡ ok_node ws n → r ≡ (ok_node ws n && plain_at ws p n)
no-var ws p n e f h = h ∙ sym (rw (ne_eqb (kind_number ws n) 1 (λ q. f (e ∙ q)), or-true (ltb n p)) (and-true (ok_node ws n)))

pub a-var : (ws : List ℕ) (p n : ℕ) {k : ℕ} {r : Bool} → k ≡ kind_number ws n → k ≡ 1 → r ≡ ok_node ws n → (ltb n p && r) ≡ (ok_node ws n && plain_at ws p n)
a-var ws p n e f h = rw (h, eq-eqb (kind_number ws n) 1 (sym e ∙ f), or-false (ltb n p)) (and_comm (ltb n p) (ok_node ws n))

pub plain-none : (ws : List ℕ) (p : ℕ) → plain_from ws p 0 ≡ true
unfolding plain_from
plain-none ws p = refl

pub plain_more : (ws : List ℕ) (p n : ℕ) → plain_from ws p n ≡ true → plain_at ws p n ≡ true → plain_from ws p (n + 1) ≡ true
unfolding plain_from
plain_more ws p n h q = rw (add-one n, h, q)

-- every node may be a Var below p
pub plain-below : (ws : List ℕ) (p count : ℕ) → count ≤ p → plain_from ws p count ≡ true
unfolding plain_from
plain-below ws p zero h = refl
plain-below ws p (suc n) h = rw (plain-below ws p n (omega arith), lt-ltb n p (omega arith))

not_plain : (ws : List ℕ) (p n count : ℕ) → n < count → plain_at ws p n ≡ false → plain_from ws p count ≡ false
unfolding plain_from
not_plain ws p n zero l h = absurd (omega arith)
not_plain ws p n (suc c) l h =
    ⊎_elim (λ e. let q : plain_at ws p c ≡ false = ap (plain_at ws p) (sym e) ∙ h in rw q (and-false (plain_from ws p c))) (λ m. rw (not_plain ws p n c m h))
    (eq-or-lt_of_le (le_of_suc-le-suc l))

pub some-refused : (ws : List ℕ) (p n count : ℕ) → n < count → (ok_node ws n && plain_at ws p n) ≡ false → (ok_pool ws count && plain_from ws p count) ≡ false
some-refused ws p n count l h = go (ok_node ws n) refl
  where
    go : (t : Bool) → ok_node ws n ≡ t → (ok_pool ws count && plain_from ws p count) ≡ false
    go true e = rw (not_plain ws p n count l (sym (rw e) ∙ h)) (and-false (ok_pool ws count))
    go false e = rw (some-bad ws n count l e)
