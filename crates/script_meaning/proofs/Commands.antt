-- A command, run: a constant that is declared, a name that is defined, an assertion. Assumes nothing.
use mathlib.Core.Path.{◌≡◌, refl}
use mathlib.Core.Bool.{Bool, true, false, ◌&&◌}
use mathlib.Core.List.{List, ◌∷◌}
use mathlib.Core.Option.{some, none}
use Prim.Native.Nat.{ℕ, zero, suc, ◌<◌}
use native.Mathlib.Omega.{arith}
use lib.Dec.{ltb}
use borrow.Author.Tests.{lt-ltb, eq-eqb}
use Rattle.terms.specs.Value.{bit}
use Rattle.script_meaning.specs.Sexp.{Sexp}
use Rattle.script_meaning.specs.Values.{Meaning, meaning, Entry, ◌↦ᵉ◌, find}
use Rattle.script_meaning.specs.Functions.{functions}
use Rattle.script_meaning.specs.Meaning.{term, sort, commands, is_fresh, values_of, script, done, command}
use Rattle.script_meaning.specs.Script.{register_name, node_name, sort_by, declare_const, assertion, define_fun}
use Rattle.script_meaning.proofs.Numbers.{decimal-numeral}
use Rattle.script_meaning.proofs.Names.{node-free, register-free, decimal-symbolic}

sort-by : (w : ℕ) → sort (sort_by w) ≡ some w
sort-by zero = refl
sort-by (suc w) = rw (decimal-numeral (suc w), lt-ltb 0 (suc w) (omega arith))

pub bit-holds : (b : Bool) → ltb 0 (bit b) ≡ b
bit-holds true = refl
bit-holds false = refl

module _ (env : List (Entry Meaning)) where
  pub fresh-node : (n : ℕ) → find env (node_name n) ≡ none → is_fresh env (node_name n) ≡ true
  unfolding find functions
  fresh-node n f = rw (decimal-symbolic n, node-free n, f)

  pub fresh-register : (r : ℕ) → find env (register_name r) ≡ none → is_fresh env (register_name r) ≡ true
  unfolding find functions
  fresh-register r f = rw (decimal-symbolic r, register-free r, f)

module _ (model : List ℕ → ℕ) (env : List (Entry Meaning)) (holds : Bool) where
  pub define-step : (n : List ℕ) (w : ℕ) (t : Sexp) (v : Meaning) → term t env ≡ some v → v.sort ≡ w → is_fresh env n ≡ true
      → command model (define_fun n (sort_by w) t) (script env holds) ≡ some (script (n ↦ᵉ v ∷ env) holds)
  unfolding find commands done
  define-step n w t v e q f = rw (sort-by w, e, eq-eqb v.sort w q, f)

  pub declare-step : (n : List ℕ) (w : ℕ) → model n < values_of w → is_fresh env n ≡ true
      → command model (declare_const n (sort_by w)) (script env holds) ≡ some (script (n ↦ᵉ meaning w (model n) ∷ env) holds)
  unfolding find commands done
  declare-step n w l f = rw (sort-by w, lt-ltb (model n) (values_of w) l, f)

  -- a constant has a value of its sort
  pub declare-other : (n : List ℕ) (w : ℕ) → ltb (model n) (values_of w) ≡ false → command model (declare_const n (sort_by w)) (script env holds) ≡ none
  unfolding find commands done
  declare-other n w l = rw (sort-by w, l)

  pub assert-step : (t : Sexp) (b : Bool) → term t env ≡ some (meaning 0 (bit b)) → command model (assertion t) (script env holds) ≡ some (script env (holds && b))
  unfolding find commands done
  assert-step t b e = rw (e, bit-holds b)
