-- What the rules of a valid pool say of a node. Assumes nothing.
use Prim.Native.Nat.{ℕ, zero, suc, ◌+◌, ◌-◌, ◌≤◌, ◌<◌}
use mathlib.Core.Path.{◌≡◌, refl, sym, ◌∙◌, subst}
use mathlib.Core.Bool.{Bool, true, false}
use mathlib.Core.List.{List}
use mathlib.Core.Logic.{⊎_elim, ◌⊎◌, inl, inr}
use native.Mathlib.Omega.{arith}
use native.Mathlib.Nat.{eq-or-lt_of_le, le_of_suc-le-suc, not-suc-le-zero}
use lib.Dec.{ltb}
use lib.ListN.{get_or-map, get_or-eq_default}
use borrow.Author.Tests.{lt-ltb, ltb-true, ltb-false, leb-true, eqb-true}
use Rattle.facts.proofs.Tests.{and_both}
use Rattle.facts.proofs.Table.{tabulate, entry}
use Rattle.terms.specs.Expr.{Expr, Var, Const, Bv, Compare, Ite, Extract, Concat, ZeroExtend, SignExtend, width}
use Rattle.terms.specs.Rules.{Good}
use Rattle.pool.specs.Node.{bad, extract, kinds, kind_at, code_of, Cell, cell_at, width_at, set_at}
use Rattle.pool.specs.Rules.{width_before, set_rule, ok_kind, ok_cell, ok_node, ok_pool, Valid}

-- the twenty numbers are those of their kinds, as antt computes; any other is bad
code_below : (n : ℕ) → n < 20 → code_of (kind_at n) ≡ n
unfolding kind_at kinds tabulate
code_below n h = sym (get_or-map code_of kinds n bad) ∙ entry (λ k. k) 20 n h

pub kind-code : (n : ℕ) → (kind_at n ≡ bad) ⊎ (code_of (kind_at n) ≡ n)
kind-code n = go (ltb n 20) refl
  where
    go : (t : Bool) → ltb n 20 ≡ t → (kind_at n ≡ bad) ⊎ (code_of (kind_at n) ≡ n)
    go true e = inr (code_below n (ltb-true n 20 e))
    go false e = inl (unfold kind_at kinds in get_or-eq_default kinds bad (ltb-false n 20 e))

-- each node of a valid pool keeps the rules
both-rules : (ws : List ℕ) (k n : ℕ) → Valid ws k → n < k → ok_node ws n ≡ true
unfolding ok_pool
both-rules ws zero n v l = absurd (not-suc-le-zero l)
both-rules ws (suc k) n v l =
    let p = and_both (ok_pool ws k) (ok_node ws k) v in
    ⊎_elim (λ e. subst (λ (m : ℕ). ok_node ws m ≡ true) (sym e) p.1) (λ h. both-rules ws k n p.0 h) (eq-or-lt_of_le (le_of_suc-le-suc l))

-- that of its kind
pub valid-node : (ws : List ℕ) (k n : ℕ) → Valid ws k → n < k → ok_cell ws n (cell_at ws n) ≡ true
valid-node ws k n v l = (and_both (ok_cell ws n (cell_at ws n)) _ (both-rules ws k n v l)).0

-- and that of its set
pub valid-set : (ws : List ℕ) (k n : ℕ) → Valid ws k → n < k → set_at ws n ≡ set_rule ws n (cell_at ws n)
valid-set ws k n v l = eqb-true _ _ (and_both (ok_cell ws n (cell_at ws n)) _ (both-rules ws k n v l)).1

-- what the rules say of an Extract
pub record ExtractRule (ws : List ℕ) (n : ℕ) (c : Cell) : Type 0 where
  pub earlier-a : c.a < n
  pub ordered : c.y ≤ c.x
  pub inside : c.x < width_at ws c.a
  pub wide_is : c.width ≡ c.x - c.y + 1

pub extract-rule : (ws : List ℕ) (n : ℕ) (c : Cell) → ok_kind extract n c (width_before ws n c.a) (width_before ws n c.b) (width_before ws n c.c) ≡ true
    → ExtractRule ws n c
extract-rule ws n c h =
    let p5 = and_both _ _ h in
    let p4 = and_both _ _ p5.0 in
    let p3 = and_both _ _ p4.0 in
    let p2 = and_both _ _ p3.0 in
    let p1 = and_both _ _ p2.0 in
    let l : c.a < n = ltb-true _ _ p1.0 in
    record {
      earlier-a = l;
      ordered = leb-true _ _ p3.1;
      inside = ltb-true _ _ (rw (lt-ltb c.a n l) at p4.1);
      wide_is = eqb-true _ _ p5.1;
    }

-- no term that keeps the rules is wider than 129 bits
pub good-wide : (t : Expr) → Good t → width t ≤ 129
unfolding Good width
good-wide (Var r) g = omega arith
good-wide (Const v w) g = g.1
good-wide (Bv o a b) g = good-wide a g.0
good-wide (Compare o a b) g = omega arith
good-wide (Ite c a b) g = good-wide a g.1
good-wide (Extract a hi lo) g = omega (arith, good-wide a g.0, g.1, g.2)
good-wide (Concat a b) g = g.4
good-wide (ZeroExtend a w) g = g.3
good-wide (SignExtend a w) g = g.3
