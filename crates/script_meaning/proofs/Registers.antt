-- The declarations of the registers, run in a start's model: each name means its register. Assumes nothing.
use mathlib.Core.Path.{◌≡◌, refl, sym, ap, ◌∙◌, subst}
use mathlib.Core.Bool.{true}
use mathlib.Core.List.{List, [], ◌∷◌}
use mathlib.Core.Logic.{⊎_elim}
use mathlib.Core.Option.{Option, some, none}
use Prim.Native.Nat.{ℕ, zero, suc, ◌+◌, ◌^◌, ◌≤◌, ◌<◌}
use native.Mathlib.Nat.{eq-or-lt_of_le, le_of_suc-le-suc}
use native.Mathlib.Omega.{arith}
use Rattle.script_meaning.specs.Sexp.{Items}
use Rattle.script_meaning.specs.Values.{and_then, Meaning, meaning, Entry, ◌↦ᵉ◌, find}
use Rattle.script_meaning.specs.Meaning.{Script, script, run}
use Rattle.script_meaning.specs.Script.{register_name, node_name, declarations}
use Rattle.script_meaning.proofs.Names.{other-decimal, find-here, find_past}
use Rattle.script_meaning.proofs.Commands.{fresh-register, declare-step}

abbrev pub Names : Type 0
Names = List (Entry Meaning)

module _ (regs : ℕ → ℕ) where
  pub record Declared (env : Names) (r : ℕ) : Type 0 where
    pub known : (j : ℕ) → j < r → find env (register_name j) ≡ some (meaning 128 (regs j))
    pub free : (j : ℕ) → r ≤ j → find env (register_name j) ≡ none
    pub no_node : (j : ℕ) → find env (node_name j) ≡ none

  pub nothing : Declared [] 0
  unfolding find
  nothing = record { known = λ j h. absurd (omega arith); free = λ j h. refl; no_node = λ j. refl }

  one_more : (env : Names) (r : ℕ) → Declared env r → Declared (register_name r ↦ᵉ meaning 128 (regs r) ∷ env) (suc r)
  unfolding find
  one_more env r d =
      let v = meaning 128 (regs r) in
      record {
        known =
            λ j h.
            ⊎_elim
            (λ e. subst (λ (i : ℕ). find (register_name r ↦ᵉ v ∷ env) (register_name i) ≡ some (meaning 128 (regs i))) (sym e) (find-here (register_name r) v env))
            (λ l. find_past (register_name r) (register_name j) v env (other-decimal r j (λ e. omega arith)) ∙ d.known j l)
            (eq-or-lt_of_le (le_of_suc-le-suc h));
        free = λ j h. find_past (register_name r) (register_name j) v env (other-decimal r j (λ e. omega arith)) ∙ d.free j (omega arith);
        no_node = λ j. d.no_node j;
      }

  module _ (model : List ℕ → ℕ) (small : (r : ℕ) → r < 32 → regs r < 2 ^ 128) (agrees : (r : ℕ) → r < 32 → model (register_name r) ≡ regs r) where
    pub record AllDeclared (k r : ℕ) (env : Names) (rest : Items) : Type 0 where
      pub names : Names
      pub declared : Declared names 32
      pub ran : run model (declarations k r rest) (script env true) ≡ run model rest (script names true)

    pub declare : (k r : ℕ) (env : Names) (rest : Items) → r + k ≡ 32 → Declared env r → AllDeclared k r env rest
    unfolding declarations run
    declare zero r env rest e d =
        let p : r ≡ 32 = omega arith in
        record { names = env; declared = subst (λ (i : ℕ). Declared env i) p d; ran = refl }
    declare (suc k) r env rest e d =
        let l : r < 32 = omega arith in
        let q : model (register_name r) ≡ regs r = agrees r l in
        let s = declare k (suc r) (register_name r ↦ᵉ meaning 128 (regs r) ∷ env) rest (omega arith) (one_more env r d) in
        let step = declare-step model env true (register_name r) 128 (subst (λ (x : ℕ). x < 2 ^ 128) (sym q) (small r l)) (fresh-register env r (d.free r (omega arith))) in
        record {
          names = s.names;
          declared = s.declared;
          ran =
              ap (λ (o : Option Script). and_then o (λ s. run model (declarations k (suc r) rest) s)) step
              ∙ ap (λ (x : ℕ). run model (declarations k (suc r) rest) (script (register_name r ↦ᵉ meaning 128 x ∷ env) true)) q
              ∙ s.ran;
        }
