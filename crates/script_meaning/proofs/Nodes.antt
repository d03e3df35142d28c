-- If each name before a node means its node's tree, the node's term does too. Assumes nothing.
use mathlib.Core.Path.{◌≡◌, refl, sym, ap, ◌∙◌, subst}
use mathlib.Core.Bool.{true, false}
use mathlib.Core.List.{List, ◌∷◌}
use mathlib.Core.Logic.{⊎_elim}
use mathlib.Core.Option.{some, none}
use Prim.Native.Nat.{ℕ, suc, ◌≤◌, ◌<◌}
use native.Mathlib.Nat.{eq-or-lt_of_le, le_of_suc-le-suc}
use native.Mathlib.Omega.{arith}
use lib.Dec.{ltb}
use borrow.Author.Tests.{lt-ltb}
use Rattle.terms.specs.Expr.{Expr, Var}
use Rattle.terms.specs.Value.{value}
use Rattle.pool.specs.Node.{Kind, bad, var, const, bv, compare, ite, extract, concat, zext, sext, Cell, cell_at, width_at}
use Rattle.pool.specs.Rules.{width_before, ok_kind, Valid}
use Rattle.pool.specs.Unfold.{shape_of, earlier, unfold_at}
use Rattle.pool.proofs.Facts.{valid-node}
use Rattle.pool.proofs.Laws.{unfold-step}
use Rattle.pool_check.proofs.Sound.{sound}
use Rattle.pool_rules.proofs.Kept.{register, var-wide}
use Rattle.facts.specs.Same.{same}
use Rattle.script_meaning.specs.Values.{Meaning, meaning, ◌↦ᵉ◌, find}
use Rattle.script_meaning.specs.Meaning.{atom, term}
use Rattle.script_meaning.specs.Script.{register_name, node_name, name_by, name_of, term_of}
use Rattle.script_meaning.proofs.Names.{other-decimal, find-here, find_past, atom-name}
use Rattle.script_meaning.proofs.Vars.{is_var, name-other}
use Rattle.script_meaning.proofs.Terms.{Means, by_kind}
use Rattle.script_meaning.proofs.Registers.{Names, Declared}

module _ (ws : List ℕ) (count : ℕ) (valid : Valid ws count) (regs : ℕ → ℕ) where
  abbrev pub value_at : ℕ → ℕ
  value_at n = value regs (unfold_at ws n)

  abbrev pub meaning_at : ℕ → Meaning
  meaning_at n = meaning (width_at ws n) (value_at n)

  pub record Defined (env : Names) (n : ℕ) : Type 0 where
    pub registers : (j : ℕ) → j < 32 → find env (register_name j) ≡ some (meaning 128 (regs j))
    pub named : (m : ℕ) → m < n → find env (name_of ws m) ≡ some (meaning_at m)
    pub free : (j : ℕ) → n ≤ j → find env (node_name j) ≡ none

  -- the registers are declared, and nothing else
  pub before : (env : Names) → Declared regs env 32 → Defined env 0
  before env d = record { registers = d.known; named = λ m h. absurd (omega arith); free = λ j h. d.no_node j }

  -- the names of the nodes before n
  abbrev pub Before : Names → ℕ → Type 0
  Before env n = (m : ℕ) → m < n → find env (name_of ws m) ≡ some (meaning_at m)

  pub atom-is : (env : Names) (m : ℕ) → find env (name_of ws m) ≡ some (meaning_at m) → atom env (name_of ws m) ≡ some (meaning_at m)
  atom-is env m e = atom-name env (cell_at ws m).kind (cell_at ws m) m ∙ e

  -- the operand m of node n
  operand : (env : Names) (n m : ℕ) → n ≤ count → Before env n → m < n → Means env regs (name_of ws m) (earlier (ltb m n) (unfold_at ws m)) (width_before ws n m)
  operand env n m h d l = rw (lt-ltb m n l) (record { is = atom-is env m (d m l); wide_is = (sound ws count valid m (omega arith)).wide })

  pub term-reads : (env : Names) (n : ℕ) → n < count → Before env n → is_var (cell_at ws n).kind ≡ false → term (term_of ws n) env ≡ some (meaning_at n)
  term-reads env n h d v =
      let k = cell_at ws n in
      by_kind env regs n k (width_before ws n k.a) (width_before ws n k.b) (width_before ws n k.c) (width_at ws k.a) (name_of ws k.a) (name_of ws k.b) (name_of ws k.c)
      (earlier (ltb k.a n) (unfold_at ws k.a)) (earlier (ltb k.b n) (unfold_at ws k.b)) (earlier (ltb k.c n) (unfold_at ws k.c))
      (operand env n k.a (omega arith) d) (operand env n k.b (omega arith) d) (operand env n k.c (omega arith) d) (λ l. rw (lt-ltb k.a n l)) k.kind v
      (valid-node ws count n valid h)
      ∙ ap (λ (e : Expr). some (meaning (width_at ws n) (value regs e))) (sym (unfold-step ws n k refl))

  -- a Var is its register
  pub record IsRegister (n : ℕ) : Type 0 where
    pub named-so : name_of ws n ≡ register_name (cell_at ws n).x
    pub one_of : (cell_at ws n).x < 32
    pub wide_is : width_at ws n ≡ 128
    pub tree : unfold_at ws n ≡ Var (cell_at ws n).x

  pub is-register : (n : ℕ) → n < count → (cell_at ws n).kind ≡ var → IsRegister n
  is-register n h e =
      let k = cell_at ws n in
      let A = width_before ws n k.a in
      let B = width_before ws n k.b in
      let C = width_before ws n k.c in
      let ok : ok_kind var n k A B C ≡ true = subst (λ (κ : Kind). ok_kind κ n k A B C ≡ true) e (valid-node ws count n valid h) in
      let x = earlier (ltb k.a n) (unfold_at ws k.a) in
      let y = earlier (ltb k.b n) (unfold_at ws k.b) in
      let z = earlier (ltb k.c n) (unfold_at ws k.c) in
      record {
        named-so = ap (λ (κ : Kind). name_by κ k n) e;
        one_of = register n k A B C ok;
        wide_is = var-wide n k A B C ok;
        tree = unfold-step ws n k refl ∙ ap (λ (κ : Kind). shape_of κ k x y z) e;
      }

  pub var-named : (env : Names) (n : ℕ) → n < count → Defined env n → (cell_at ws n).kind ≡ var → find env (name_of ws n) ≡ some (meaning_at n)
  unfolding value
  var-named env n h d e =
      let r = is-register n h e in
      let x = (cell_at ws n).x in
      ap (find env) r.named-so
      ∙ d.registers x r.one_of
      ∙ ap (λ (w : ℕ). some (meaning w (regs x))) (sym r.wide_is)
      ∙ ap (λ (t : Expr). some (meaning (width_at ws n) (value regs t))) (sym r.tree)

  -- the next node's name
  pub next : (env : Names) (n : ℕ) → Defined env n → find env (name_of ws n) ≡ some (meaning_at n) → Defined env (suc n)
  next env n d e =
      record {
        registers = d.registers;
        named =
            λ m h.
            ⊎_elim (λ p. subst (λ (i : ℕ). find env (name_of ws i) ≡ some (meaning_at i)) (sym p) e) (λ l. d.named m l) (eq-or-lt_of_le (le_of_suc-le-suc h));
        free = λ j h. d.free j (omega arith);
      }

  -- a node that is no Var is added under its own name; the names before it are other names
  name-apart : (κ : Kind) (k : Cell) (m n : ℕ) → m < n → same (node_name n) (name_by κ k m) ≡ false
  name-apart bad k m n h = other-decimal n m (λ e. omega arith)
  name-apart var k m n h = refl
  name-apart const k m n h = other-decimal n m (λ e. omega arith)
  name-apart (bv o) k m n h = other-decimal n m (λ e. omega arith)
  name-apart (compare o) k m n h = other-decimal n m (λ e. omega arith)
  name-apart ite k m n h = other-decimal n m (λ e. omega arith)
  name-apart extract k m n h = other-decimal n m (λ e. omega arith)
  name-apart concat k m n h = other-decimal n m (λ e. omega arith)
  name-apart zext k m n h = other-decimal n m (λ e. omega arith)
  name-apart sext k m n h = other-decimal n m (λ e. omega arith)

  pub before-past : (env : Names) (n : ℕ) (v : Meaning) → Before env n → Before (node_name n ↦ᵉ v ∷ env) n
  before-past env n v d m l = find_past (node_name n) (name_of ws m) v env (name-apart (cell_at ws m).kind (cell_at ws m) m n l) ∙ d m l

  pub with-node : (env : Names) (n : ℕ) → Defined env n → is_var (cell_at ws n).kind ≡ false → Defined (node_name n ↦ᵉ meaning_at n ∷ env) (suc n)
  with-node env n d v =
      let new = node_name n ↦ᵉ meaning_at n ∷ env in
      record {
        registers = λ j h. find_past (node_name n) (register_name j) (meaning_at n) env refl ∙ d.registers j h;
        named =
            λ m h.
            ⊎_elim
            (λ p.
            subst (λ (i : ℕ). find new (name_of ws i) ≡ some (meaning_at i)) (sym p)
            (ap (find new) (name-other (cell_at ws n).kind (cell_at ws n) n v) ∙ find-here (node_name n) (meaning_at n) env))
            (λ l. before-past env n (meaning_at n) d.named m l)
            (eq-or-lt_of_le (le_of_suc-le-suc h));
        free = λ j h. find_past (node_name n) (node_name j) (meaning_at n) env (other-decimal n j (λ e. omega arith)) ∙ d.free j (omega arith);
      }
