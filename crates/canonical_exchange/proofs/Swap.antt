-- A record's tree does not depend on a register that its form does not read; so two instructions that are apart may be exchanged, and each
-- register has the same tree. Assumes nothing.
use mathlib.Core.Path.{◌≡◌, refl, sym, ap, ◌∙◌, fun_ext}
use mathlib.Core.Bool.{Bool, true, false, cond, ◌&&◌, ◌||◌, not, false≢true}
use mathlib.Core.List.{List, [], ◌∷◌, ◌++◌}
use Prim.Native.Nat.{ℕ}
use lib.Dec.{eqb}
use borrow.Author.Tests.{eqb-true, eqb-false, not-true}
use Rattle.facts.proofs.Tests.{and_both}
use Rattle.terms.specs.Expr.{Expr}
use Rattle.neon.specs.declared.Instruction.{Instruction}
use Rattle.neon.specs.Op.{op_at, arrangement_at, full}
use Rattle.neon.specs.Form.{form, first_full, second_full, by_element, has_second, reads_d}
use Rattle.neon.specs.Run.{update}
use Rattle.trees.specs.Block.{widen_tree}
use Rattle.trees.specs.Trees.{result_tree, read_tree, record_tree, tree_step, tree_run}
use Rattle.trees.specs.Block as Block
use Rattle.trees.proofs.Unread.{unread-second, unread-old}
use Rattle.canonical_exchange.specs.Apart.{reads_register, apart}

-- ---- a record's tree, over registers that agree on what it reads

either : (p : Bool) (x y : Expr) (f : Expr → Expr) → (p ≡ true → x ≡ y) → (p ≡ false → f x ≡ f y) → f x ≡ f y
either true x y f h g = ap f (h refl)
either false x y f h g = g refl

record_same : (c : Instruction) (s t : ℕ → Expr) → (let o = op_at c.operation in let v = arrangement_at c.arrangement in
    s c.n ≡ t c.n → (has_second o ≡ true → s c.m ≡ t c.m) → (reads_d o v ≡ true → s c.d ≡ t c.d) → record_tree c s ≡ record_tree c t)
unfolding Block.record_tree
record_same c s t hn hm hd =
    let o = op_at c.operation in
    let v = arrangement_at c.arrangement in
    let l = (form o).lanes in
    let A : Expr → Expr = λ x. read_tree (first_full l (full v)) x in
    let B : Expr → Expr = λ x. read_tree (second_full l (by_element o) (full v)) x in
    let D : Expr → Expr = λ x. read_tree (full v) x in
    ap (widen_tree (full v))
    (ap (λ (x : Expr). result_tree o v c.i (D (s c.d)) (A x) (B (s c.m))) hn
    ∙ either (has_second o) (s c.m) (t c.m) (λ x. result_tree o v c.i (D (s c.d)) (A (t c.n)) (B x)) hm
    (λ h. unread-second o v c.i (D (s c.d)) (A (t c.n)) (B (s c.m)) (B (t c.m)) h)
    ∙ either (reads_d o v) (s c.d) (t c.d) (λ x. result_tree o v c.i (D x) (A (t c.n)) (B (t c.m))) hd
    (λ h. unread-old o v c.i (D (s c.d)) (D (t c.d)) (A (t c.n)) (B (t c.m)) h))

-- ---- exchange

not-or : (p q : Bool) → not (p || q) ≡ true → (p ≡ false) × (q ≡ false)
not-or true q h = absurd (false≢true h)
not-or false q h = (refl, not-true q h)

apart-when : (p q : Bool) → (p && q) ≡ false → p ≡ true → q ≡ false
apart-when true q h e = h
apart-when false q h e = absurd (false≢true e)

-- a register other than d keeps its term
update_other : (d : ℕ) (x : Expr) (s : ℕ → Expr) (r : ℕ) → eqb d r ≡ false → update d x s r ≡ s r
update_other d x s r h = go (eqb r d) refl
  where
    go : (f : Bool) → eqb r d ≡ f → cond f x (s r) ≡ s r
    go true e = absurd (eqb-false d r h (sym (eqb-true r d e)))
    go false e = refl

-- a record that does not read d has the same tree if d is another term
tree-other : (c : Instruction) (d : ℕ) (x : Expr) (s : ℕ → Expr) → not (reads_register c d) ≡ true → record_tree c (update d x s) ≡ record_tree c s
tree-other c d x s h =
    let o = op_at c.operation in
    let p = not-or (eqb d c.n) _ h in
    let q = not-or-of p.1 in
    record_same c (update d x s) s (update_other d x s c.n p.0)
    (λ e. update_other d x s c.m (apart-when (has_second o) _ q.0 e))
    (λ e. update_other d x s c.d (apart-when (reads_d o (arrangement_at c.arrangement)) _ q.1 e))
  where
    not-or-of : {p q : Bool} → (p || q) ≡ false → (p ≡ false) × (q ≡ false)
    not-or-of {p} {q} e = not-or p q (ap not e)

swap_at : (x y : Expr) (a b r : ℕ) (z : Expr) → eqb a b ≡ false → cond (eqb r b) y (cond (eqb r a) x z) ≡ cond (eqb r a) x (cond (eqb r b) y z)
swap_at x y a b r z h = go (eqb r a) (eqb r b) refl refl
  where
    go : (p q : Bool) → eqb r a ≡ p → eqb r b ≡ q → cond q y (cond p x z) ≡ cond p x (cond q y z)
    go true true e f = absurd (eqb-false a b h (sym (eqb-true r a e) ∙ eqb-true r b f))
    go true false e f = refl
    go false true e f = refl
    go false false e f = refl

pub steps-swap : (a b : Instruction) → apart a b ≡ true → (s : ℕ → Expr) → tree_step b (tree_step a s) ≡ tree_step a (tree_step b s)
unfolding Block.tree_step
steps-swap a b h s =
    let p = and_both (not (eqb a.d b.d)) _ h in
    let q = and_both (not (reads_register a b.d)) _ p.1 in
    let A = record_tree a s in
    let B = record_tree b s in
    let eb : record_tree b (update a.d A s) ≡ B = tree-other b a.d A s q.1 in
    let ea : record_tree a (update b.d B s) ≡ A = tree-other a b.d B s q.0 in
    fun_ext λ r.
    ap (λ (y : Expr). cond (eqb r b.d) y (cond (eqb r a.d) A (s r))) eb
    ∙ swap_at A B a.d b.d r (s r) (not-true _ p.0)
    ∙ ap (λ (x : Expr). cond (eqb r a.d) x (cond (eqb r b.d) B (s r))) (sym ea)

-- two neighbours exchanged anywhere in a list
pub runs-swap : (before : List Instruction) (a b : Instruction) (after : List Instruction) → apart a b ≡ true → (s : ℕ → Expr)
    → tree_run (before ++ (a ∷ b ∷ after)) s ≡ tree_run (before ++ (b ∷ a ∷ after)) s
unfolding Block.tree_run
runs-swap [] a b after h s = ap (tree_run after) (steps-swap a b h s)
runs-swap (c ∷ before) a b after h s = runs-swap before a b after h (tree_step c s)
