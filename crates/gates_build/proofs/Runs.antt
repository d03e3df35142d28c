-- Literals made by a few conjunctions one after the other: or, the adders, the choice. Assumes nothing.
use mathlib.Core.Path.{◌≡◌, refl, ◌∙◌}
use mathlib.Core.Bool.{Bool, true, false, not, ◌&&◌, ◌||◌}
use mathlib.Core.List.{List}
use Prim.Native.Nat.{ℕ, ◌+◌, ◌≤◌}
use native.Mathlib.Omega.{arith}
use Rattle.gates.specs.Graph.{truth}
use Rattle.gates.specs.Grow.{Grown, Builds, Under, negated}
use Rattle.gates.proofs.Laws.{Is, is-itself, is-kept, is-not, grown-trans, stays}
use Rattle.gates_build.specs.Adds.{differ, most, choose, HalfAdds, FullAdds}

-- what `and` and `or` say
abbrev Ands : (g : List ℕ) (k : ℕ) (h : List ℕ) (r n a b : ℕ) → Type 0
Ands g k h r n a b = Builds g k h r n 1 (λ start. truth start g a && truth start g b)

abbrev Ors : (g : List ℕ) (k : ℕ) (h : List ℕ) (r n a b : ℕ) → Type 0
Ors g k h r n a b = Builds g k h r n 1 (λ start. truth start g a || truth start g b)

-- the literal that was made, of literals that are known
and_is : {g h : List ℕ} {k r n a b : ℕ} {x y : (ℕ → ℕ) → Bool} → Ands g k h r n a b → Is g k a x → Is g k b y → Is h n r (λ start. x start && y start)
and_is e p q = record { under = e.under; true-at = λ start. e.is start ∙ (λ i. p.true-at start i && q.true-at start i) }

or_is : {g h : List ℕ} {k r n a b : ℕ} {x y : (ℕ → ℕ) → Bool} → Ors g k h r n a b → Is g k a x → Is g k b y → Is h n r (λ start. x start || y start)
or_is e p q = record { under = e.under; true-at = λ start. e.is start ∙ (λ i. p.true-at start i || q.true-at start i) }

not_is : {g : List ℕ} {k l r : ℕ} {x : (ℕ → ℕ) → Bool} → r ≡ negated l → Is g k l x → Is g k r (λ start. not (x start))
not_is {g} {k} {l} {r} {x} e p = rw e (is-not p)

builds : {g h : List ℕ} {k r n m : ℕ} {x y : (ℕ → ℕ) → Bool} → Grown g k h n → n ≤ k + m → ((start : ℕ → ℕ) → x start ≡ y start) → Is h n r x
    → Builds g k h r n m y
builds w l q e = record { grown = w; most = l; under = e.under; is = λ start. e.true-at start ∙ q start }

-- ---- or

or-of : (x y : Bool) → not (not x && not y) ≡ (x || y)
or-of true y = refl
or-of false true = refl
or-of false false = refl

pub or-made : {g h : List ℕ} {k r n a b x y z : ℕ} → Under a k → Under b k → x ≡ negated a → y ≡ negated b → Ands g k h r n x y → z ≡ negated r
    → Ors g k h z n a b
or-made {g} {h} {k} {a = a} {b = b} ua ub ex ey e ez =
    builds e.grown e.most (λ start. or-of (truth start g a) (truth start g b))
    (not_is ez (and_is e (not_is ex (is-itself g k a ua)) (not_is ey (is-itself g k b ub))))

-- ---- the adders

differ_of : (x y : Bool) → (not (x && y) && not (not x && not y)) ≡ differ x y
differ_of true true = refl
differ_of true false = refl
differ_of false true = refl
differ_of false false = refl

pub half-made : {g h i j : List ℕ} {k l m n a b p q r x y u v : ℕ} → Under a k → Under b k → Ands g k h p l a b → x ≡ negated a → y ≡ negated b
    → Ands h l i q m x y → u ≡ negated p → v ≡ negated q → Ands i m j r n u v → HalfAdds g k j p r n a b
half-made {g} {k = k} {n = n} {a = a} {b = b} ua ub e1 ex ey e2 eu ev e3 =
    let ia = is-itself g k a ua in
    let ib = is-itself g k b ub in
    let ip = is-kept e2.grown (and_is e1 ia ib) in
    let iq = and_is e2 (not_is ex (is-kept e1.grown ia)) (not_is ey (is-kept e1.grown ib)) in
    let w = grown-trans e1.grown (grown-trans e2.grown e3.grown) in
    let l : n ≤ k + 3 = omega (arith, e1.most, e2.most, e3.most) in (
      builds w l (λ start. refl) (is-kept e3.grown ip),
      builds w l (λ start. differ_of (truth start g a) (truth start g b))
          (and_is e3 (not_is eu ip) (not_is ev iq)),
    )

most-of : (x y z : Bool) → ((x && y) || (differ x y && z)) ≡ most x y z
most-of true true z = refl
most-of true false z = refl
most-of false true z = refl
most-of false false z = refl

-- a literal of a builder, of literals that are known: the half adder's
half_is : {g h : List ℕ} {k c s n a b : ℕ} {x y : (ℕ → ℕ) → Bool} → HalfAdds g k h c s n a b → Is g k a x → Is g k b y
    → Is h n c (λ start. x start && y start) × Is h n s (λ start. differ (x start) (y start))
half_is e p q = (
  record { under = e.0.under; true-at = λ start. e.0.is start ∙ (λ i. p.true-at start i && q.true-at start i) },
  record { under = e.1.under; true-at = λ start. e.1.is start ∙ (λ i. differ (p.true-at start i) (q.true-at start i)) },
)

pub full-made : {g h i j : List ℕ} {k l m n a b c p s q t r : ℕ} → Under a k → Under b k → Under c k → HalfAdds g k h p s l a b → HalfAdds h l i q t m s c
    → Ors i m j r n p q → FullAdds g k j r t n a b c
full-made {g} {k = k} {n = n} {a = a} {b = b} {c = c} ua ub uc e1 e2 e3 =
    let f = half_is e1 (is-itself g k a ua) (is-itself g k b ub) in
    let t = half_is e2 f.1 (is-kept e1.0.grown (is-itself g k c uc)) in
    let w = grown-trans e1.0.grown (grown-trans e2.0.grown e3.grown) in
    let l : n ≤ k + 7 = omega (arith, e1.0.most, e2.0.most, e3.most) in (
      builds w l (λ start. most-of (truth start g a) (truth start g b) (truth start g c)) (or_is e3 (is-kept e2.0.grown f.0) t.0),
      builds w l
          (λ start. refl) (is-kept e3.grown t.1),
    )

pub majority-made : {g h i j : List ℕ} {k l m n a b c p s q r : ℕ} → Under a k → Under b k → Under c k → HalfAdds g k h p s l a b → Ands h l i q m s c
    → Ors i m j r n p q → Builds g k j r n 5 (λ start. most (truth start g a) (truth start g b) (truth start g c))
majority-made {g} {k = k} {a = a} {b = b} {c = c} ua ub uc e1 e2 e3 =
    let f = half_is e1 (is-itself g k a ua) (is-itself g k b ub) in
    let t = and_is e2 f.1 (is-kept e1.0.grown (is-itself g k c uc)) in
    builds (grown-trans e1.0.grown (grown-trans e2.grown e3.grown)) (omega (arith, e1.0.most, e2.most, e3.most))
    (λ start. most-of (truth start g a) (truth start g b) (truth start g c))
    (or_is e3 (is-kept e2.grown f.0) t)

-- ---- the choice

choose-same : (c x : Bool) → x ≡ choose c x x
choose-same true x = refl
choose-same false x = refl

choose-of : (c x y : Bool) → ((c && x) || (not c && y)) ≡ choose c x y
choose-of true true y = refl
choose-of true false y = refl
choose-of false x y = refl

pub same_chosen : {g : List ℕ} {k : ℕ} (c : ℕ) {a b : ℕ} → Under a k → a ≡ b
    → Builds g k g a k 3 (λ start. choose (truth start g c) (truth start g a) (truth start g b))
same_chosen {g} c {a} u e = rw (← e) (stays (record { under = u; true-at = λ start. choose-same (truth start g c) (truth start g a) }))

pub mux-made : {g h i j : List ℕ} {k l m n c a b p q r x : ℕ} → Under c k → Under a k → Under b k → Ands g k h p l c a → x ≡ negated c → Ands h l i q m x b
    → Ors i m j r n p q → Builds g k j r n 3 (λ start. choose (truth start g c) (truth start g a) (truth start g b))
mux-made {g} {k = k} {c = c} {a = a} {b = b} uc ua ub e1 ex e2 e3 =
    let ic = is-itself g k c uc in
    let ip = and_is e1 ic (is-itself g k a ua) in
    let iq = and_is e2 (not_is ex (is-kept e1.grown ic)) (is-kept e1.grown (is-itself g k b ub)) in
    builds (grown-trans e1.grown (grown-trans e2.grown e3.grown)) (omega (arith, e1.most, e2.most, e3.most))
    (λ start. choose-of (truth start g c) (truth start g a) (truth start g b))
    (or_is e3 (is-kept e2.grown ip) iq)
