-- An assertion that failed stays failed, whatever commands follow. Assumes nothing.
use mathlib.Core.Path.{◌≡◌, refl}
use mathlib.Core.Bool.{Bool, true, false, ◌&&◌}
use mathlib.Core.List.{List, [], ◌∷◌}
use mathlib.Core.Option.{Option, some, none}
use Prim.Native.Nat.{ℕ}
use lib.Dec.{ltb, eqb}
use Rattle.script_meaning.specs.Sexp.{Sexp, word, list, Items, stop, ◌⨾◌}
use Rattle.script_meaning.specs.Values.{and_then, when, meaning, find}
use Rattle.script_meaning.specs.Meaning.{term, sort, Command, declare, define, claim, check, commands}
use Rattle.script_meaning.specs.Meaning.{Script, script, is_fresh, as_name, is_stop, parts, values_of, done, command, run}

-- no script: no assertion that holds
abbrev pub holds_of : Option Script → Bool
holds_of (some s) = s.holds
holds_of none = false

and-then : {A : Type 0} (o : Option A) (k : A → Option Script) → ((a : A) → holds_of (k a) ≡ false) → holds_of (and_then o k) ≡ false
and-then (some a) k f = f a
and-then none k f = refl

when-fails : (b : Bool) (s : Script) → s.holds ≡ false → holds_of (when b s) ≡ false
when-fails true s h = h
when-fails false s h = refl

module _ (model : List ℕ → ℕ) where
  done-fails : (c : Command) (xs : List Sexp) (s : Script) → s.holds ≡ false → holds_of (done model c xs s) ≡ false
  unfolding done
  done-fails declare [] s h = refl
  done-fails declare (n ∷ []) s h = refl
  done-fails declare (n ∷ m ∷ []) s h =
      and-then (as_name n) _ λ n.
      and-then (sort m) _ λ m. and-then (when (ltb (model n) (values_of m)) (meaning m (model n))) _ λ v. when-fails (is_fresh s.defined n) _ h
  done-fails declare (n ∷ m ∷ x ∷ xs) s h = refl
  done-fails define [] s h = refl
  done-fails define (n ∷ []) s h = refl
  done-fails define (n ∷ ps ∷ []) s h = refl
  done-fails define (n ∷ ps ∷ m ∷ []) s h = refl
  done-fails define (n ∷ ps ∷ m ∷ t ∷ []) s h =
      and-then (as_name n) _ λ n.
      and-then (sort m) _ λ m.
      and-then (term t s.defined) _ λ v. and-then (when (is_stop ps && eqb v.sort m) v) _ λ v. when-fails (is_fresh s.defined n) _ h
  done-fails define (n ∷ ps ∷ m ∷ t ∷ x ∷ xs) s h = refl
  done-fails claim [] s h = refl
  done-fails claim (t ∷ []) s h = and-then (term t s.defined) _ λ v. when-fails (eqb v.sort 0) (script s.defined (s.holds && ltb 0 v.is)) (rw h)
  done-fails claim (t ∷ x ∷ xs) s h = refl
  done-fails check [] s h = h
  done-fails check (x ∷ xs) s h = refl

  command-fails : (x : Sexp) (s : Script) → s.holds ≡ false → holds_of (command model x s) ≡ false
  command-fails (word w) s h = refl
  command-fails (list stop) s h = refl
  command-fails (list (list ys ⨾ xs)) s h = refl
  command-fails (list (word c ⨾ xs)) s h = and-then (find commands c) _ λ k. done-fails k (parts xs) s h

  pub run-fails : (xs : Items) (s : Script) → s.holds ≡ false → holds_of (run model xs s) ≡ false
  unfolding run
  run-fails stop s h = h
  run-fails (x ⨾ xs) s h = go (command model x s) (command-fails x s h) (λ t e. run-fails xs t e)
    where
      go : (o : Option Script) → holds_of o ≡ false → ((t : Script) → t.holds ≡ false → holds_of (run model xs t) ≡ false)
          → holds_of (and_then o (λ s. run model xs s)) ≡ false
      go (some t) e ih = ih t e
      go none e ih = refl
