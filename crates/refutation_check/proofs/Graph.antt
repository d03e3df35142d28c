-- Good graphs, a gate after the other. Assumes nothing.
use mathlib.Core.Path.{◌≡◌, refl, sym, ap, ◌∙◌}
use mathlib.Core.Bool.{Bool, true, false, ◌&&◌}
use mathlib.Core.List.{List}
use mathlib.Core.Logic.{⊎_elim}
use Prim.Native.Nat.{ℕ, zero, suc, ◌+◌, ◌≤◌, ◌<◌}
use native.Mathlib.Numerals.{add-one}
use native.Mathlib.Omega.{arith}
use lib.Dec.{ltb, eqb}
use lib.ListN.{length}
use borrow.Author.Tests.{lt-ltb, le-ltb, eqb-true, eqb-false}
use Rattle.gates.specs.Graph.{inputs, variable, left_at, right_at, gate_ok, gates_ok, graph_ok}
use Rattle.gates.specs.Grow.{literal_of}
use Rattle.refutation.proofs.Cases.{split}

pub no-gates : (g : List ℕ) → gates_ok g 0 ≡ true
unfolding gates_ok
no-gates g = refl

pub gates-more : (g : List ℕ) (n : ℕ) → gates_ok g n ≡ true → left_at g n < literal_of n → right_at g n < literal_of n → gates_ok g (n + 1) ≡ true
unfolding gates_ok
gates-more g n e a b =
    rw (add-one, e, lt-ltb (variable (left_at g n)) (inputs + n) (omega arith), lt-ltb (variable (right_at g n)) (inputs + n) (omega arith)) refl

and-false : (a : Bool) → (a && false) ≡ false
and-false true = refl
and-false false = refl

gates-bad : (g : List ℕ) (count n : ℕ) → n < count → gate_ok g n ≡ false → gates_ok g count ≡ false
unfolding gates_ok
gates-bad g zero n h e = absurd (omega arith)
gates-bad g (suc k) n h e =
    ⊎_elim (λ q. ap (λ (m : ℕ). gates_ok g k && gate_ok g m) (sym (eqb-true n k q)) ∙ rw e (and-false (gates_ok g k)))
    (λ q. let d = eqb-false n k q in rw (gates-bad g k n (omega (arith, d)) e) refl) (split (eqb n k))

module _ (g : List ℕ) (count n : ℕ) (h : n < count) where
  graph-bad : gate_ok g n ≡ false → graph_ok g count ≡ false
  unfolding graph_ok
  graph-bad e = rw (gates-bad g count n h e) (and-false (ltb count (suc (length g))))

  pub left-bad : literal_of n ≤ left_at g n → graph_ok g count ≡ false
  left-bad b = graph-bad (rw (le-ltb (variable (left_at g n)) (inputs + n) (omega arith)) refl)

  pub right-bad : literal_of n ≤ right_at g n → graph_ok g count ≡ false
  right-bad b =
      graph-bad (rw (le-ltb (variable (right_at g n)) (inputs + n) (omega arith)) (and-false (ltb (variable (left_at g n)) (inputs + n))))

pub graph-short : (g : List ℕ) (count : ℕ) → length g < count → graph_ok g count ≡ false
unfolding graph_ok
graph-short g count h = rw (le-ltb count (suc (length g)) h) refl

pub graph-good : (g : List ℕ) (count : ℕ) → count ≤ length g → gates_ok g count ≡ true → graph_ok g count ≡ true
unfolding graph_ok
graph-good g count h e = rw (lt-ltb count (suc (length g)) (omega arith), e) refl
