-- Two literals in place of two others: the laws of absorption. Assumes nothing.
use mathlib.Core.Path.{◌≡◌, refl, sym, ap, ◌∙◌}
use mathlib.Core.Bool.{Bool, true, false, not, ◌&&◌, ◌||◌, and_comm}
use mathlib.Core.List.{List}
use mathlib.Core.Logic.{◌⊎◌, inl, inr, ⊎_elim}
use Prim.Native.Nat.{ℕ, ◌+◌, ◌-◌, ◌/◌, ◌%◌, ◌≤◌, ◌<◌}
use native.Mathlib.Omega.{arith}
use lib.Dec.{eqb}
use borrow.Author.Tests.{eqb-true, eq-eqb, ne_eqb}
use Rattle.gates.specs.Graph.{inputs, left_at, right_at, flip, inverted, variable_truth, truth}
use Rattle.gates.specs.Grow.{Builds, Under, negated}
use Rattle.gates.proofs.Truth.{gate-truth, false-truth, true-truth}
use Rattle.gates.proofs.Laws.{negated-truth, by-another}
use Rattle.gates_build.specs.Reduce.{Ordered, Same, GateOf, Absorbs}

pub either : (a x y : ℕ) → (eqb a x || eqb a y) ≡ true → (a ≡ x) ⊎ (a ≡ y)
either a x y t = go (eqb a x) refl t
  where
    go : (b : Bool) → eqb a x ≡ b → (b || eqb a y) ≡ true → (a ≡ x) ⊎ (a ≡ y)
    go true e h = inl (eqb-true a x e)
    go false e h = inr (eqb-true a y h)

pub either-of : (a : ℕ) {x y x' y' : ℕ} → x ≡ x' → y ≡ y' → (eqb a x || eqb a y) ≡ true → (a ≡ x') ⊎ (a ≡ y')
either-of a {x} {y} p q t = ⊎_elim (λ e. inl (e ∙ p)) (λ e. inr (e ∙ q)) (either a x y t)

-- x && y, and one of the two or its negation
with-left : (x y : Bool) → (true && (x && y)) ≡ (x && (x && y))
with-left true y = refl
with-left false y = refl

with-right : (x y : Bool) → (true && (x && y)) ≡ (y && (x && y))
with-right true true = refl
with-right true false = refl
with-right false true = refl
with-right false false = refl

against-left : (x y : Bool) → (false && (x && y)) ≡ (not x && (x && y))
against-left true y = refl
against-left false y = refl

against-right : (x y : Bool) → (false && (x && y)) ≡ (not y && (x && y))
against-right true true = refl
against-right true false = refl
against-right false true = refl
against-right false false = refl

-- not (x && y), and one of the two or its negation
not_left : (x y : Bool) → (true && not x) ≡ (not x && not (x && y))
not_left true y = refl
not_left false y = refl

not_right : (x y : Bool) → (true && not y) ≡ (not y && not (x && y))
not_right true true = refl
not_right true false = refl
not_right false true = refl
not_right false false = refl

but-left : (x y : Bool) → (x && not y) ≡ (x && not (x && y))
but-left true y = refl
but-left false y = refl

but-right : (x y : Bool) → (y && not x) ≡ (y && not (x && y))
but-right true true = refl
but-right true false = refl
but-right false true = refl
but-right false false = refl

pub same-ordered : {g : List ℕ} {k a b p q f s : ℕ} → Ordered p q f s → Under p k → Under q k
    → ((start : ℕ → ℕ) → (truth start g p && truth start g q) ≡ (truth start g a && truth start g b)) → Same g k a b f s
same-ordered {g} {k} {a} {b} {p} {q} {f} {s} o up uq is =
    ⊎_elim
    (λ e.
    record {
      ordered = o.0;
      under = omega (arith, e.1, uq);
      is = λ start. (λ i. truth start g (e.0 i) && truth start g (e.1 i)) ∙ is start;
    })
    (λ e.
    record {
      ordered = o.0;
      under = omega (arith, e.1, up);
      is = λ start. (λ i. truth start g (e.0 i) && truth start g (e.1 i)) ∙ and_comm (truth start g q) (truth start g p) ∙ is start;
    })
    o.1

pub same-itself : {g : List ℕ} {k a b : ℕ} → a ≤ b → Under b k → Same g k a b a b
same-itself l u = record { ordered = l; under = u; is = λ start. refl }

pub kept : {a b x y : ℕ} → a ≤ b → Absorbs a b x y a b
kept l = record { same = λ ua gate. same-itself l gate.under }

-- by what the literals are at every start
by_values : {A B P Q a b p q : Bool} → p ≡ P → q ≡ Q → a ≡ A → b ≡ B → (P && Q) ≡ (A && B) → (p && q) ≡ (a && b)
by_values p q a b law = (λ i. p i && q i) ∙ law ∙ sym (λ i. a i && b i)

module _ {b x y : ℕ} where
  module _ (even : b % 2 ≡ 0) where
    upright : {g : List ℕ} {k : ℕ} → GateOf g k b x y → (start : ℕ → ℕ) → truth start g b ≡ (truth start g x && truth start g y)
    upright {g} gate start =
        gate.is start ∙ ap (λ (i : Bool). flip i (truth start g x && truth start g y)) (ne_eqb (b % 2) 1 (λ e. omega (arith, e, even)))

    pub has-it : {a f s : ℕ} → (a ≡ x) ⊎ (a ≡ y) → Ordered 1 b f s → Absorbs a b x y f s
    has-it {a} e o =
        record {
          same = λ {g} {k} ua gate.
              same-ordered o (omega arith) gate.under
              (λ start.
              let b-is = upright gate start in
              let X = truth start g x in
              let Y = truth start g y in
              ⊎_elim (λ q. by_values (true-truth start g) b-is (ap (truth start g) q) b-is (with-left X Y))
              (λ q. by_values (true-truth start g) b-is (ap (truth start g) q) b-is (with-right X Y))
              e);
        }

    pub has-negation : {a f s : ℕ} → (a ≡ negated x) ⊎ (a ≡ negated y) → Ordered 0 b f s → Absorbs a b x y f s
    has-negation {a} e o =
        record {
          same = λ {g} {k} ua gate.
              same-ordered o (omega arith) gate.under
              (λ start.
              let b-is = upright gate start in
              let X = truth start g x in
              let Y = truth start g y in
              ⊎_elim (λ q. by_values (false-truth start g) b-is (ap (truth start g) q ∙ negated-truth start g x) b-is (against-left X Y))
              (λ q. by_values (false-truth start g) b-is (ap (truth start g) q ∙ negated-truth start g y) b-is (against-right X Y))
              e);
        }

  module _ (odd : b % 2 ≡ 0 → ⊥) where
    turned : {g : List ℕ} {k : ℕ} → GateOf g k b x y → (start : ℕ → ℕ) → truth start g b ≡ not (truth start g x && truth start g y)
    turned {g} gate start =
        gate.is start ∙ ap (λ (i : Bool). flip i (truth start g x && truth start g y)) (eq-eqb (b % 2) 1 (omega (arith, odd)))

    pub follows : {a f s : ℕ} → (a ≡ negated x) ⊎ (a ≡ negated y) → Ordered 1 a f s → Absorbs a b x y f s
    follows {a} e o =
        record {
          same = λ {g} {k} ua gate.
              same-ordered o (omega arith) ua
              (λ start.
              let b-is = turned gate start in
              let X = truth start g x in
              let Y = truth start g y in
              ⊎_elim
              (λ q. let a-is = ap (truth start g) q ∙ negated-truth start g x in by_values (true-truth start g) a-is a-is b-is (not_left X Y))
              (λ q. let a-is = ap (truth start g) q ∙ negated-truth start g y in by_values (true-truth start g) a-is a-is b-is (not_right X Y))
              e);
        }

    pub leaves-right : {a f s : ℕ} → a ≡ x → Ordered a (negated y) f s → Absorbs a b x y f s
    leaves-right {a} e o =
        record {
          same = λ {g} {k} ua gate.
              same-ordered o ua (omega (arith, gate.right))
              (λ start.
              let a-is = ap (truth start g) e in
              by_values a-is (negated-truth start g y) a-is (turned gate start) (but-left (truth start g x) (truth start g y)));
        }

    pub leaves-left : {a f s : ℕ} → a ≡ y → Ordered a (negated x) f s → Absorbs a b x y f s
    leaves-left {a} e o =
        record {
          same = λ {g} {k} ua gate.
              same-ordered o ua (omega (arith, gate.left))
              (λ start.
              let a-is = ap (truth start g) e in
              by_values a-is (negated-truth start g x) a-is (turned gate start) (but-right (truth start g x) (truth start g y)));
        }

-- a literal of a gate that comes after its operands
pub gate-of-word : {g : List ℕ} {k b : ℕ} → Under b k → inputs ≤ b / 2 → left_at g (b / 2 - inputs) / 2 < b / 2 → right_at g (b / 2 - inputs) / 2 < b / 2
    → GateOf g k b (left_at g (b / 2 - inputs)) (right_at g (b / 2 - inputs))
gate-of-word {g} {k} {b} u l left right =
    let j = b / 2 - inputs in
    let whole : b / 2 ≡ inputs + j = omega (arith, l) in
    record {
      under = u;
      left = omega (arith, u, left);
      right = omega (arith, u, right);
      is = λ start.
          ap (λ (v : ℕ). flip (inverted b) (variable_truth start g v)) whole
          ∙ ap (flip (inverted b)) (gate-truth start g j (omega (arith, whole, left)) (omega (arith, whole, right)));
    }

pub and_same : {g h : List ℕ} {k a b p q r n : ℕ} → Same g k a b p q → Builds g k h r n 1 (λ start. truth start g p && truth start g q)
    → Builds g k h r n 1 (λ start. truth start g a && truth start g b)
and_same s d = by-another s.is d
