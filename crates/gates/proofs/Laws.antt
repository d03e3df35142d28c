-- Graphs that grow: growth one after the other, a gate more, literals that stay what they are. Assumes nothing.
use mathlib.Core.Path.{◌≡◌, refl, sym, ap, ◌∙◌}
use mathlib.Core.Bool.{Bool, true, false, not, ◌&&◌, and_comm}
use mathlib.Core.List.{List}
use mathlib.Core.Logic.{⊎_elim}
use Prim.Native.Nat.{ℕ, zero, suc, ◌+◌, ◌-◌, ◌*◌, ◌/◌, ◌%◌, ◌≤◌, ◌<◌}
use native.Mathlib.Omega.{arith}
use native.Mathlib.Nat.{not-suc-le-zero, lt_of_lt_of_le}
use native.Mathlib.Numerals.{add-one}
use lib.Dec.{ltb, eqb}
use lib.ListN.{length, get_or, set, length-set}
use lib.Seq.{get_or-set_same, get_or-set_other}
use borrow.Author.Tests.{lt-ltb, ne_eqb}
use Rattle.gates.specs.Graph.{inputs, variable, inverted, left_at, right_at, left_of, right_of, gate_word, flip, truth, gate_ok, gates_ok, variable_truth}
use Rattle.gates.specs.Grow.{Room, Grown, Builds, Under, negated, literal_of}
use Rattle.gates.proofs.Truth.{same_truth, gate-truth, negated-variable, negated-inverted}

pub grown-same : (g : List ℕ) (k : ℕ) → Grown g k g k
grown-same g k = record { long = refl; more = omega arith; kept = λ i h. refl; valid = λ v. v }

pub grown-trans : {g h j : List ℕ} {k l m : ℕ} → Grown g k h l → Grown h l j m → Grown g k j m
grown-trans a b =
    record {
      long = b.long ∙ a.long;
      more = omega arith;
      kept = λ i h. b.kept i (lt_of_lt_of_le h a.more) ∙ a.kept i h;
      valid = λ v. b.valid (a.valid v);
    }

-- what a literal is at every start: f
pub record Is (g : List ℕ) (k l : ℕ) (f : (ℕ → ℕ) → Bool) : Type 0 where
  pub under : Under l k
  pub true-at : (start : ℕ → ℕ) → truth start g l ≡ f start

-- itself, and what it stays while the graph grows
pub is-itself : (g : List ℕ) (k l : ℕ) → Under l k → Is g k l (λ start. truth start g l)
is-itself g k l u = record { under = u; true-at = λ start. refl }

pub is-kept : {g h : List ℕ} {k m l : ℕ} {f : (ℕ → ℕ) → Bool} → Grown g k h m → Is g k l f → Is h m l f
is-kept {g} {h} {k} {m} {l} w e =
    record { under = omega (arith, w.more, e.under); true-at = λ start. same_truth start g h k l w.kept e.under ∙ e.true-at start }

flip-not : (b x : Bool) → flip (not b) x ≡ not (flip b x)
flip-not true true = refl
flip-not true false = refl
flip-not false x = refl

pub negated-truth : (start : ℕ → ℕ) (g : List ℕ) (l : ℕ) → truth start g (negated l) ≡ not (truth start g l)
negated-truth start g l =
    (λ i. flip (negated-inverted l i) (variable_truth start g (negated-variable l i))) ∙ flip-not (inverted l) (variable_truth start g (variable l))

pub is-not : {g : List ℕ} {k l : ℕ} {f : (ℕ → ℕ) → Bool} → Is g k l f → Is g k (negated l) (λ start. not (f start))
is-not {g} {k} {l} e = record { under = omega (arith, e.under); true-at = λ start. negated-truth start g l ∙ ap not (e.true-at start) }

-- what a builder made, by another name of its function
pub is_made : {g h : List ℕ} {k m r n : ℕ} {f e : (ℕ → ℕ) → Bool} → Builds g k h r n m f → ((start : ℕ → ℕ) → f start ≡ e start) → Is h n r e
is_made b q = record { under = b.under; true-at = λ start. b.is start ∙ q start }

gates-same : (g h : List ℕ) (k : ℕ) → ((i : ℕ) → i < k → get_or h i 0 ≡ get_or g i 0) → gates_ok h k ≡ gates_ok g k
unfolding gates_ok
gates-same g h zero e = refl
gates-same g h (suc k) e = rw (gates-same g h k (λ i l. e i (omega arith)), e k (omega arith))

-- gate k, whose word holds a and b that come before it
module _ (g : List ℕ) (k a b : ℕ) (word-is : get_or g k 0 ≡ gate_word a b) (small : a < 4294967296) (ua : Under a k) (ub : Under b k) where
  left_is : left_at g k ≡ a
  left_is = ap left_of word-is ∙ omega arith

  right_is : right_at g k ≡ b
  right_is = ap right_of word-is ∙ omega arith

  gate-ok : gate_ok g k ≡ true
  gate-ok = rw (left_is, right_is, lt-ltb (variable a) (inputs + k) (omega arith), lt-ltb (variable b) (inputs + k) (omega arith))

  pub gate-is : (start : ℕ → ℕ) → truth start g (literal_of k) ≡ (truth start g a && truth start g b)
  gate-is start =
      let even : inverted (literal_of k) ≡ false = ne_eqb (literal_of k % 2) 1 (λ e. omega (arith, e)) in
      let its : variable (literal_of k) ≡ inputs + k = omega arith in
      rw (even, its)
      (gate-truth start g k (rw left_is ua) (rw right_is ub) ∙ (λ i. truth start g (left_is i) && truth start g (right_is i)))

-- a gate more, of two literals that come before it
module _ (g : List ℕ) (k a b : ℕ) (room : Room g k 1) (ua : Under a k) (ub : Under b k) where
  abbrev new : List ℕ
  new = set g k (gate_word a b)

  new_word : get_or new k 0 ≡ gate_word a b
  new_word = get_or-set_same g k (gate_word a b) 0 (omega (arith, room))

  gate-kept : (i : ℕ) → i < k → get_or new i 0 ≡ get_or g i 0
  gate-kept i h = get_or-set_other g k i (gate_word a b) 0 (λ e. omega (arith, e, h))

  gates-ok : gates_ok g k ≡ true → gates_ok new (k + 1) ≡ true
  unfolding gates_ok
  gates-ok v = rw (add-one k) (rw (gates-same g new k gate-kept, v, gate-ok new k a b new_word (omega (arith, room)) ua ub))

  pub gate-builds : Builds g k new (literal_of k) (k + 1) 1 (λ start. truth start g a && truth start g b)
  gate-builds =
      record {
        grown = record { long = length-set g k (gate_word a b); more = omega arith; kept = gate-kept; valid = gates-ok };
        most = omega arith;
        under = omega arith;
        is = λ start.
            gate-is new k a b new_word (omega (arith, room)) ua ub start
            ∙ (λ i. same_truth start g new k a gate-kept ua i && same_truth start g new k b gate-kept ub i);
      }

-- a literal that is there already
pub stays : {g : List ℕ} {k r m : ℕ} {f : (ℕ → ℕ) → Bool} → Is g k r f → Builds g k g r k m f
stays {g} {k} e = record { grown = grown-same g k; most = omega arith; under = e.under; is = e.true-at }

pub by-another : {g h : List ℕ} {k m r n : ℕ} {f e : (ℕ → ℕ) → Bool} → ((start : ℕ → ℕ) → f start ≡ e start) → Builds g k h r n m f → Builds g k h r n m e
by-another q b = record { grown = b.grown; most = b.most; under = b.under; is = λ start. b.is start ∙ q start }
