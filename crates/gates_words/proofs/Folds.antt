-- Loops that go over two words with one literal: what it is after the first i bits, and a bit more. Assumes nothing.
use mathlib.Core.Path.{◌≡◌, refl, sym, ap, ◌∙◌}
use mathlib.Core.Bool.{Bool, true, false, not, ◌&&◌, ◌||◌}
use mathlib.Core.List.{List}
use Prim.Native.Nat.{ℕ, ◌+◌, ◌-◌, ◌*◌, ◌^◌, ◌≤◌, ◌<◌}
use native.Mathlib.Omega.{arith}
use lib.Dec.{ltb, eqb}
use lib.ListN.{get_or}
use borrow.Author.Tests.{eq-eqb, ne_eqb, eqb-true, eqb-false, lt-ltb, le-ltb, ltb-true, ltb-false}
use Rattle.terms.specs.Value.{bit, bvslt}
use Rattle.gates.specs.Graph.{truth}
use Rattle.gates.specs.Grow.{Builds, Under, negated}
use Rattle.gates.proofs.Truth.{same_truth, true-truth}
use Rattle.gates.proofs.Laws.{grown-trans, grown-same, negated-truth, by-another}
use Rattle.gates_build.specs.Adds.{differ, most, choose}
use Rattle.gates_words.specs.Number.{sum, bit_at, number}
use Rattle.gates_words.specs.Words.{Reads}
use Rattle.gates_words.proofs.Sums.{sum-next, sum_lt, sum_top}

abbrev pub Fold : (Bool → Bool → Bool → Bool) → (ℕ → ℕ → Bool) → Type 0
Fold f F = (i x y : ℕ) (p q : Bool) → x < 2 ^ i → y < 2 ^ i → f p q (F x y) ≡ F (x + bit p * 2 ^ i) (y + bit q * 2 ^ i)

pub fold-none : (F : ℕ → ℕ → Bool) (g : List ℕ) (k : ℕ) (bits : List ℕ) (a b : ℕ) → F 0 0 ≡ true
    → Builds g k g 1 k 0 (λ start. F (number start g bits a 0) (number start g bits b 0))
unfolding sum
fold-none F g k bits a b e = record { grown = grown-same g k; most = omega arith; under = omega arith; is = λ start. true-truth start g ∙ sym e }

pub fold_more : (f : Bool → Bool → Bool → Bool) (F : ℕ → ℕ → Bool) → Fold f F → {g h h' : List ℕ} {k n n' r r' m m' w i all : ℕ} (bits : List ℕ) (a b : ℕ)
    → Builds g k h r n m (λ start. F (number start g bits a i) (number start g bits b i)) → Reads bits a w k → Reads bits b w k → i < w
    → Builds h n h' r' n' m' (λ start. f (truth start h (get_or bits (a + i) 0)) (truth start h (get_or bits (b + i) 0)) (truth start h r)) → m + m' ≤ all
    → Builds g k h' r' n' all (λ start. F (number start g bits a (i + 1)) (number start g bits b (i + 1)))
fold_more f F step {g} {h} {k = k} {i = i} bits a b e ra rb l d le =
    record {
      grown = grown-trans e.grown d.grown;
      most = omega (arith, e.most, d.most, le);
      under = d.under;
      is = λ start.
          d.is start
          ∙ (λ z.
          f (same_truth start g h k (get_or bits (a + i) 0) e.grown.kept (ra.low i l) z)
          (same_truth start g h k (get_or bits (b + i) 0) e.grown.kept (rb.low i l) z)
          (e.is start z))
          ∙ step i (number start g bits a i) (number start g bits b i) (bit_at start g bits a i) (bit_at start g bits b i) (sum_lt (bit_at start g bits a) i)
          (sum_lt (bit_at start g bits b) i)
          ∙ (λ z. F (sym (sum-next (bit_at start g bits a) i) z) (sym (sum-next (bit_at start g bits b) i) z));
    }

-- ---- equal

same-eqb : (a b c d : ℕ) → (a ≡ b → c ≡ d) → (c ≡ d → a ≡ b) → eqb a b ≡ eqb c d
same-eqb a b c d f g = go (eqb a b) refl
  where
    go : (t : Bool) → eqb a b ≡ t → t ≡ eqb c d
    go true e = sym (eq-eqb c d (f (eqb-true a b e)))
    go false e = sym (ne_eqb c d (λ q. eqb-false a b e (g q)))

and-true : (b : Bool) → (b && true) ≡ b
and-true true = refl
and-true false = refl

and-false : (b : Bool) → (b && false) ≡ false
and-false true = refl
and-false false = refl

pub equal-step : Fold (λ p q s. s && not (differ p q)) eqb
equal-step i x y true true lx ly = and-true (eqb x y) ∙ same-eqb x y (x + 1 * 2 ^ i) (y + 1 * 2 ^ i) (λ e. omega (arith, e)) (λ e. omega (arith, e))
equal-step i x y true false lx ly = and-false (eqb x y) ∙ sym (ne_eqb (x + 1 * 2 ^ i) (y + 0 * 2 ^ i) (λ e. omega (arith, e, lx, ly)))
equal-step i x y false true lx ly = and-false (eqb x y) ∙ sym (ne_eqb (x + 0 * 2 ^ i) (y + 1 * 2 ^ i) (λ e. omega (arith, e, lx, ly)))
equal-step i x y false false lx ly = and-true (eqb x y) ∙ same-eqb x y (x + 0 * 2 ^ i) (y + 0 * 2 ^ i) (λ e. omega (arith, e)) (λ e. omega (arith, e))

-- ---- less

same-ltb : (a b c d : ℕ) → (a < b → c < d) → (b ≤ a → d ≤ c) → not (ltb a b) ≡ not (ltb c d)
same-ltb a b c d f g = go (ltb a b) refl
  where
    go : (t : Bool) → ltb a b ≡ t → not t ≡ not (ltb c d)
    go true e = ap not (sym (lt-ltb c d (f (ltb-true a b e))))
    go false e = ap not (sym (le-ltb c d (g (ltb-false a b e))))

pub less-step : Fold (λ p q c. most p (not q) c) (λ x y. not (ltb x y))
less-step i x y true true lx ly = same-ltb x y (x + 1 * 2 ^ i) (y + 1 * 2 ^ i) (λ e. omega (arith, e)) (λ e. omega (arith, e))
less-step i x y true false lx ly = ap not (sym (le-ltb (x + 1 * 2 ^ i) (y + 0 * 2 ^ i) (omega (arith, ly))))
less-step i x y false true lx ly = ap not (sym (lt-ltb (x + 0 * 2 ^ i) (y + 1 * 2 ^ i) (omega (arith, lx))))
less-step i x y false false lx ly = same-ltb x y (x + 0 * 2 ^ i) (y + 0 * 2 ^ i) (λ e. omega (arith, e)) (λ e. omega (arith, e))

-- ---- the parts of a turn

pub same-made : {g h j : List ℕ} {k l n o z r s : ℕ} (x y : ℕ) → Under s k → Builds g k h o l 3 (λ start. differ (truth start g x) (truth start g y))
    → z ≡ negated o
    → Builds h l j r n 1 (λ start. truth start h s && truth start h z)
    → Builds g k j r n 4 (λ start. truth start g s && not (differ (truth start g x) (truth start g y)))
same-made {g} {h} {k = k} {o = o} {z} {s = s} x y u e q d =
    record {
      grown = grown-trans e.grown d.grown;
      most = omega (arith, e.most, d.most);
      under = d.under;
      is = λ start.
          d.is start
          ∙ (λ i. same_truth start g h k s e.grown.kept u i && truth start h (q i))
          ∙ ap (λ (t : Bool). truth start g s && t) (negated-truth start h o ∙ ap not (e.is start));
    }

pub at-least-made : {g h : List ℕ} {k r n z : ℕ} (x y c : ℕ) → z ≡ negated y
    → Builds g k h r n 5 (λ start. most (truth start g x) (truth start g z) (truth start g c))
    → Builds g k h r n 5 (λ start. most (truth start g x) (not (truth start g y)) (truth start g c))
at-least-made {g} x y c q e =
    by-another (λ start. ap (λ (t : Bool). most (truth start g x) t (truth start g c)) (ap (truth start g) q ∙ negated-truth start g y)) e

not-not : (b : Bool) → not (not b) ≡ b
not-not true = refl
not-not false = refl

pub less-made : {g h : List ℕ} {k r n m z : ℕ} (f : (ℕ → ℕ) → Bool) → z ≡ negated r → Builds g k h r n m (λ start. not (f start)) → Builds g k h z n m f
less-made {h = h} {r = r} f q e =
    record {
      grown = e.grown;
      most = e.most;
      under = omega (arith, q, e.under);
      is = λ start. ap (truth start h) q ∙ negated-truth start h r ∙ ap not (e.is start) ∙ not-not (f start);
    }

-- ---- less with signs

signs : (x y u : Bool) (m n : ℕ) → m ≡ bit x → n ≡ bit y → choose (differ x y) x u ≡ (eqb m 1 && eqb n 0 || eqb m n && u)
signs true true u m n p q = rw (p, q)
signs true false u m n p q = rw (p, q)
signs false true u m n p q = rw (p, q)
signs false false u m n p q = rw (p, q)

pub signed-made : {g h i j : List ℕ} {k l n o z r s w : ℕ} (bits : List ℕ) (a b : ℕ) → 1 ≤ w → Reads bits a w k → Reads bits b w k
    → Builds g k h o l (5 * w) (λ start. ltb (number start g bits a w) (number start g bits b w))
    → Builds h l i z n 3 (λ start. differ (truth start h (get_or bits (a + (w - 1)) 0)) (truth start h (get_or bits (b + (w - 1)) 0)))
    → Builds i n j r s 3 (λ start. choose (truth start i z) (truth start i (get_or bits (a + (w - 1)) 0)) (truth start i o))
    → Builds g k j r s (5 * w + 6) (λ start. bvslt w (number start g bits a w) (number start g bits b w))
unfolding bvslt
signed-made {g} {h} {i} {k = k} {l} {n} {o} {z} {w = w} bits a b one ra rb e1 e2 e3 =
    let w2 = grown-trans e1.grown e2.grown in
    let la = ra.low (w - 1) (omega arith) in
    let lb = rb.low (w - 1) (omega arith) in
    record {
      grown = grown-trans w2 e3.grown;
      most = omega (arith, e1.most, e2.most, e3.most);
      under = e3.under;
      is = λ start.
          let x = bit_at start g bits a (w - 1) in
          let y = bit_at start g bits b (w - 1) in
          let zx : truth start i z ≡ differ x y =
          e2.is start ∙ (λ t. differ (same_truth start g h k (get_or bits (a + (w - 1)) 0) e1.grown.kept la t)
          (same_truth start g h k (get_or bits (b + (w - 1)) 0) e1.grown.kept lb t)) in
          e3.is start
          ∙ (λ t. choose (zx t) (same_truth start g i k (get_or bits (a + (w - 1)) 0) w2.kept la t)
          ((same_truth start h i l o e2.grown.kept e1.under ∙ e1.is start) t))
          ∙ signs x y (ltb (number start g bits a w) (number start g bits b w)) _ _ (sum_top (bit_at start g bits a) w one)
          (sum_top (bit_at start g bits b) w one);
    }
