-- A pool's script, run at a start: each name means its node's tree, and the assertion holds if the two chosen values differ.
-- Assumes nothing.
use mathlib.Core.Path.{◌≡◌, refl, ap, ◌∙◌, subst}
use mathlib.Core.Bool.{Bool, true, false, not}
use mathlib.Core.List.{List, [], ◌∷◌}
use mathlib.Core.Option.{Option, some}
use Prim.Native.Nat.{ℕ, zero, suc, ◌+◌, ◌^◌, ◌<◌}
use native.Mathlib.Omega.{arith}
use lib.Dec.{eqb}
use borrow.Author.Tests.{eq-eqb}
use Rattle.terms.specs.Display.{bytes}
use Rattle.pool.specs.Node.{Kind, cell_at, width_at}
use Rattle.pool.specs.Rules.{Valid}
use Rattle.script_meaning.specs.Sexp.{Items, stop, ◌⨾◌}
use Rattle.script_meaning.specs.Values.{and_then, Meaning, ◌↦ᵉ◌, find}
use Rattle.script_meaning.specs.Functions.{functions, distinct, applied}
use Rattle.script_meaning.specs.Meaning.{commands, Script, script, done, run}
use Rattle.script_meaning.specs.Script.{register_name, node_name, name_of, apply2, term_of, sort_width, assertion, defined_by, definition, definitions, declarations, check_sat}
use Rattle.script_meaning.proofs.Vars.{is_var, is-var, defined-other}
use Rattle.script_meaning.proofs.Terms.{two-args}
use Rattle.script_meaning.proofs.Commands.{fresh-node, define-step, assert-step}
use Rattle.script_meaning.proofs.Registers.{Names, nothing, declare}
use Rattle.script_meaning.proofs.Nodes.{value_at, meaning_at, Defined, before, atom-is, term-reads, var-named, next, with-node}

module _ (ws : List ℕ) (count : ℕ) (valid : Valid ws count) (regs : ℕ → ℕ) (model : List ℕ → ℕ) where
  abbrev Known : Names → ℕ → Type 0
  Known env n = Defined ws count valid regs env n

  abbrev means : ℕ → Meaning
  means n = meaning_at ws count valid regs n

  record AllDefined (k n : ℕ) (env : Names) (rest : Items) : Type 0 where
    names : Names
    defined-all : Known names count
    ran : run model (definitions ws k n rest) (script env true) ≡ run model rest (script names true)

  define : (k n : ℕ) (env : Names) (rest : Items) → n + k ≡ count → Known env n → AllDefined k n env rest
  unfolding definitions run
  define zero n env rest e d =
      let p : n ≡ count = omega arith in
      record { names = env; defined-all = subst (λ (i : ℕ). Known env i) p d; ran = refl }
  define (suc k) n env rest e d = go (is_var (cell_at ws n).kind) refl (λ env' d'. define k (suc n) env' rest (omega arith) d')
    where
      go : (b : Bool) → is_var (cell_at ws n).kind ≡ b → ((env' : Names) → Known env' (suc n) → AllDefined k (suc n) env' rest) → AllDefined (suc k) n env rest
      go true v ih =
          let κ = is-var (cell_at ws n).kind v in
          let s = ih env (next ws count valid regs env n d (var-named ws count valid regs env n (omega arith) d κ)) in
          record {
            names = s.names;
            defined-all = s.defined-all;
            ran = ap (λ (κ : Kind). run model (defined_by κ (definition ws n) (definitions ws k (suc n) rest)) (script env true)) κ ∙ s.ran;
          }
      go false v ih =
          let s = ih (node_name n ↦ᵉ means n ∷ env) (with-node ws count valid regs env n d v) in
          let reads = term-reads ws count valid regs env n (omega arith) d.named v in
          let sort-is : (means n).sort ≡ sort_width ws n = refl in
          let step = define-step model env true (node_name n) (sort_width ws n) (term_of ws n) (means n) reads sort-is (fresh-node env n (d.free n (omega arith))) in
          record {
            names = s.names;
            defined-all = s.defined-all;
            ran =
                ap (λ (xs : Items). run model xs (script env true)) (defined-other (cell_at ws n).kind (definition ws n) (definitions ws k (suc n) rest) v)
                ∙ ap (λ (o : Option Script). and_then o (λ s. run model (definitions ws k (suc n) rest) s)) step
                ∙ s.ran;
          }

  -- ---- the assertion

  abbrev differ : ℕ → ℕ → Bool
  differ x y = not (eqb (value_at ws count valid regs x) (value_at ws count valid regs y))

  abbrev pub claim : ℕ → ℕ → Items
  claim x y = assertion (apply2 (bytes "distinct") (name_of ws x) (name_of ws y)) ⨾ check_sat ⨾ stop

  claimed : (env : Names) (x y : ℕ) → Known env count → x < count → y < count → width_at ws x ≡ width_at ws y
      → run model (claim x y) (script env true) ≡ some (script env (differ x y))
  unfolding run find functions commands done applied
  claimed env x y d hx hy e =
      let at = atom-is ws count valid regs env in
      let t = two-args env (bytes "distinct") (name_of ws x) (name_of ws y) distinct (means x) (means y) refl (at x (d.named x hx)) (at y (d.named y hy)) in
      let step = assert-step model env true (apply2 (bytes "distinct") (name_of ws x) (name_of ws y)) (differ x y) (t ∙ rw (eq-eqb (width_at ws x) (width_at ws y) e)) in
      ap (λ (o : Option Script). and_then o (λ s. run model (check_sat ⨾ stop) s)) step

  -- the whole script but its first line
  pub record Ran (x y : ℕ) (xs : Items) : Type 0 where
    pub names : Names
    pub values : (n : ℕ) → n < count → find names (name_of ws n) ≡ some (means n)
    pub ran : run model xs (script [] true) ≡ some (script names (differ x y))

  pub run-script : (x y : ℕ) → x < count → y < count → width_at ws x ≡ width_at ws y → ((r : ℕ) → r < 32 → regs r < 2 ^ 128)
      → ((r : ℕ) → r < 32 → model (register_name r) ≡ regs r) → Ran x y (declarations 32 0 (definitions ws count 0 (claim x y)))
  run-script x y hx hy w small agrees =
      let a = declare regs model small agrees 32 0 [] (definitions ws count 0 (claim x y)) (omega arith) (nothing regs) in
      let b = define count 0 a.names (claim x y) (omega arith) (before ws count valid regs a.names a.declared) in
      record {
        names = b.names;
        values = b.defined-all.named;
        ran = a.ran ∙ b.ran ∙ claimed b.names x y b.defined-all hx hy w;
      }
