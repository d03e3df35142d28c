-- The equations of a pool, run in a model of a start. If the model has the nodes' values each name means its node's tree and no equation
-- fails; and if all assertions hold the model has these values. Assumes nothing.
use mathlib.Core.Path.{◌≡◌, refl, sym, ap, ◌∙◌, subst}
use mathlib.Core.Bool.{Bool, true, false, false≢true}
use mathlib.Core.List.{List, ◌∷◌}
use mathlib.Core.Logic.{⊎_elim}
use mathlib.Core.Option.{Option, some, none}
use Prim.Native.Nat.{ℕ, zero, suc, ◌+◌, ◌≤◌, ◌<◌}
use native.Mathlib.Nat.{eq-or-lt_of_le}
use native.Mathlib.Omega.{arith}
use lib.Dec.{ltb, eqb}
use borrow.Author.Tests.{ltb-true, eqb-true, eq-eqb}
use Rattle.terms.specs.Value.{bit}
use Rattle.terms.specs.Display.{bytes}
use Rattle.pool.specs.Node.{Kind, bad, var, cell_at, width_at}
use Rattle.pool.specs.Rules.{Valid}
use Rattle.script_meaning.specs.Sexp.{word, Items, ◌⨾◌}
use Rattle.script_meaning.specs.Values.{and_then, meaning, ◌↦ᵉ◌, find}
use Rattle.script_meaning.specs.Functions.{functions, equal, applied}
use Rattle.script_meaning.specs.Meaning.{term, values_of, Script, script, run}
use Rattle.script_meaning.specs.Script.{node_name, term_of, defined_by}
use Rattle.script_meaning.proofs.Names.{find-here, atom-name}
use Rattle.script_meaning.proofs.Vars.{is_var, is-var, defined-other}
use Rattle.script_meaning.proofs.Terms.{two-terms}
use Rattle.script_meaning.proofs.Commands.{fresh-node, declare-step, declare-other, assert-step}
use Rattle.script_meaning.proofs.Registers.{Names}
use Rattle.script_meaning.proofs.Nodes.{value_at, meaning_at, Defined, term-reads, var-named, next, before-past, with-node}
use Rattle.script_meaning.proofs.Stays.{holds_of, run-fails}
use Rattle.script_lane_meaning.specs.LaneScript.{constant, equality, equation, equations}

-- ---- the commands of a node

module _ (ws : List ℕ) (k n : ℕ) (rest : Items) where
  of-var : (cell_at ws n).kind ≡ var → equations ws (suc k) n rest ≡ equations ws k (suc n) rest
  unfolding equations
  of-var e = ap (λ (κ : Kind). defined_by κ (constant ws n) (defined_by κ (equation ws n) (equations ws k (suc n) rest))) e

  of_other : is_var (cell_at ws n).kind ≡ false → equations ws (suc k) n rest ≡ (constant ws n ⨾ equation ws n ⨾ equations ws k (suc n) rest)
  unfolding equations
  of_other v =
      let κ = (cell_at ws n).kind in
      let more = equations ws k (suc n) rest in
      defined-other κ (constant ws n) (defined_by κ (equation ws n) more) v ∙ ap (λ (xs : Items). constant ws n ⨾ xs) (defined-other κ (equation ws n) more v)

module _ (ws : List ℕ) (count : ℕ) (valid : Valid ws count) (regs : ℕ → ℕ) (model : List ℕ → ℕ) where
  abbrev Known : Names → ℕ → Type 0
  Known env n = Defined ws count valid regs env n

  abbrev is : ℕ → ℕ
  is n = value_at ws count valid regs n

  -- node n has been declared
  abbrev with-constant : Names → ℕ → Names
  with-constant env n = node_name n ↦ᵉ meaning (width_at ws n) (model (node_name n)) ∷ env

  equation-reads : (env : Names) (n : ℕ) → n < count → Known env n → is_var (cell_at ws n).kind ≡ false
      → term (equality ws n) (with-constant env n) ≡ some (meaning 0 (bit (eqb (model (node_name n)) (is n))))
  unfolding find functions applied term
  equation-reads env n h d v =
      let c = meaning (width_at ws n) (model (node_name n)) in
      let here = atom-name (with-constant env n) bad (cell_at ws n) n ∙ find-here (node_name n) c env in
      let reads = term-reads ws count valid regs (with-constant env n) n h (before-past ws count valid regs env n c d.named) v in
      two-terms (with-constant env n) (bytes "=") (word (node_name n)) (term_of ws n) equal c (meaning_at ws count valid regs n) refl here reads
      ∙ rw (eq-eqb (width_at ws n) (width_at ws n) refl)

  -- its constant and its equation
  both : (env : Names) (n : ℕ) (xs : Items) → n < count → Known env n → is_var (cell_at ws n).kind ≡ false → model (node_name n) < values_of (width_at ws n)
      → run model (constant ws n ⨾ equation ws n ⨾ xs) (script env true) ≡ run model xs (script (with-constant env n) (eqb (model (node_name n)) (is n)))
  unfolding run
  both env n xs h d v l =
      let first = declare-step model env true (node_name n) (width_at ws n) l (fresh-node env n (d.free n (omega arith))) in
      let second = assert-step model (with-constant env n) true (equality ws n) (eqb (model (node_name n)) (is n)) (equation-reads env n h d v) in
      ap (λ (o : Option Script). and_then o (λ s. run model (equation ws n ⨾ xs) s)) first ∙ ap (λ (o : Option Script). and_then o (λ s. run model xs s)) second

  -- ---- a model with the nodes' values

  abbrev pub Right : Type 0
  Right = (n : ℕ) → n < count → is_var (cell_at ws n).kind ≡ false → model (node_name n) ≡ is n

  pub record AllMet (k n : ℕ) (env : Names) (rest : Items) : Type 0 where
    pub names : Names
    pub known : Known names count
    pub ran : run model (equations ws k n rest) (script env true) ≡ run model rest (script names true)

  -- a constant that has its node's value means its node's tree
  as-node : (env : Names) (n : ℕ) (b : Bool) → model (node_name n) ≡ is n
      → script (with-constant env n) b ≡ script (node_name n ↦ᵉ meaning_at ws count valid regs n ∷ env) b
  as-node env n b q = ap (λ (v : ℕ). script (node_name n ↦ᵉ meaning (width_at ws n) v ∷ env) b) q

  pub meet : ((n : ℕ) → n < count → is n < values_of (width_at ws n)) → Right → (k n : ℕ) (env : Names) (rest : Items) → n + k ≡ count → Known env n → AllMet k n env rest
  unfolding equations
  meet fits right zero n env rest e d =
      let p : n ≡ count = omega arith in
      record { names = env; known = subst (λ (i : ℕ). Known env i) p d; ran = refl }
  meet fits right (suc k) n env rest e d = go (is_var (cell_at ws n).kind) refl (λ env' d'. meet fits right k (suc n) env' rest (omega arith) d')
    where
      l : n < count
      l = omega arith

      go : (b : Bool) → is_var (cell_at ws n).kind ≡ b → ((env' : Names) → Known env' (suc n) → AllMet k (suc n) env' rest) → AllMet (suc k) n env rest
      go true v ih =
          let κ = is-var (cell_at ws n).kind v in
          let s = ih env (next ws count valid regs env n d (var-named ws count valid regs env n l d κ)) in
          record { names = s.names; known = s.known; ran = ap (λ (xs : Items). run model xs (script env true)) (of-var ws k n rest κ) ∙ s.ran }
      go false v ih =
          let q = right n l v in
          let s = ih (node_name n ↦ᵉ meaning_at ws count valid regs n ∷ env) (with-node ws count valid regs env n d v) in
          let more = equations ws k (suc n) rest in
          record {
            names = s.names;
            known = s.known;
            ran =
                ap (λ (xs : Items). run model xs (script env true)) (of_other ws k n rest v)
                ∙ both env n more l d v (subst (λ (x : ℕ). x < values_of (width_at ws n)) (sym q) (fits n l))
                ∙ ap (λ (b : Bool). run model more (script (with-constant env n) b)) (eq-eqb (model (node_name n)) (is n) q)
                ∙ ap (run model more) (as-node env n true q)
                ∙ s.ran;
          }

  -- ---- a model in which all assertions hold

  -- the nodes from n on
  abbrev RightFrom : ℕ → Type 0
  RightFrom n = (m : ℕ) → n ≤ m → m < count → is_var (cell_at ws m).kind ≡ false → model (node_name m) ≡ is m

  -- what is left to run from node n on
  abbrev Left : (k n : ℕ) → Names → Items → Script → Type 0
  Left k n env rest s = run model (equations ws k n rest) (script env true) ≡ some s

  none-is-some : {s : Script} → none ≡ some s → ⊥
  none-is-some e = let z : ◌≡◌ {A = ℕ} 0 1 = cc in omega arith

  -- a constant outside its sort is not read
  in-sort : (env : Names) (n : ℕ) (xs : Items) (s : Script) → run model (constant ws n ⨾ xs) (script env true) ≡ some s → model (node_name n) < values_of (width_at ws n)
  unfolding run
  in-sort env n xs s e = go (ltb (model (node_name n)) (values_of (width_at ws n))) refl
    where
      go : (b : Bool) → ltb (model (node_name n)) (values_of (width_at ws n)) ≡ b → model (node_name n) < values_of (width_at ws n)
      go true t = ltb-true _ _ t
      go false t =
          let stopped = ap (λ (o : Option Script). and_then o (λ s. run model xs s)) (declare-other model env true (node_name n) (width_at ws n) t) in
          absurd (none-is-some (sym stopped ∙ e))

  -- an equation that fails is never mended
  equal-there : (env : Names) (xs : Items) (s : Script) (a b : ℕ) → s.holds ≡ true → run model xs (script env (eqb a b)) ≡ some s → a ≡ b
  equal-there env xs s a b h e = go (eqb a b) refl e
    where
      go : (t : Bool) → eqb a b ≡ t → run model xs (script env t) ≡ some s → a ≡ b
      go true q e = eqb-true a b q
      go false q e = absurd (false≢true (sym (run-fails model xs (script env false) refl) ∙ ap holds_of e ∙ h))

  pub force : (s : Script) → s.holds ≡ true → (k n : ℕ) (env : Names) (rest : Items) → n + k ≡ count → Known env n → Left k n env rest s → RightFrom n
  force s h zero n env rest e d r = λ m g l v. absurd (omega arith)
  force s h (suc k) n env rest e d r = go (is_var (cell_at ws n).kind) refl (λ env' d' r'. force s h k (suc n) env' rest (omega arith) d' r')
    where
      l : n < count
      l = omega arith

      go : (b : Bool) → is_var (cell_at ws n).kind ≡ b → ((env' : Names) → Known env' (suc n) → Left k (suc n) env' rest s → RightFrom (suc n)) → RightFrom n
      go true v ih = λ m g lm vm.
          let κ = is-var (cell_at ws n).kind v in
          let left = sym (ap (λ (xs : Items). run model xs (script env true)) (of-var ws k n rest κ)) ∙ r in
          let later = ih env (next ws count valid regs env n d (var-named ws count valid regs env n l d κ)) left in
          ⊎_elim (λ p. absurd (false≢true (sym vm ∙ subst (λ (i : ℕ). is_var (cell_at ws i).kind ≡ true) p v))) (λ p. later m p lm vm) (eq-or-lt_of_le g)
      go false v ih = λ m g lm vm.
          let more = equations ws k (suc n) rest in
          let here = sym (ap (λ (xs : Items). run model xs (script env true)) (of_other ws k n rest v)) ∙ r in
          let after = sym (both env n more l d v (in-sort env n (equation ws n ⨾ more) s here)) ∙ here in
          let q : model (node_name n) ≡ is n = equal-there (with-constant env n) more s (model (node_name n)) (is n) h after in
          let left =
          sym (ap (λ (b : Bool). run model more (script (with-constant env n) b)) (eq-eqb (model (node_name n)) (is n) q) ∙ ap (run model more) (as-node env n true q)) ∙ after in
          let later = ih (node_name n ↦ᵉ meaning_at ws count valid regs n ∷ env) (with-node ws count valid regs env n d v) left in
          ⊎_elim (λ p. subst (λ (i : ℕ). model (node_name i) ≡ is i) p q) (λ p. later m p lm vm) (eq-or-lt_of_le g)
