-- The literals of a node of each pool, and the literal that is true if bits of them differ. Assumes nothing.
use mathlib.Core.Bool.{not}
use mathlib.Core.List.{List}
use mathlib.Core.Path.{◌≡◌, refl, sym, ap, ◌∙◌}
use Prim.Native.Nat.{ℕ, suc, ◌+◌, ◌-◌, ◌*◌, ◌/◌, ◌%◌, ◌^◌, ◌≤◌, ◌<◌}
use native.Mathlib.Numerals.{add-one}
use native.Mathlib.Omega.{arith}
use lib.Dec.{eqb}
use lib.ListN.{length, get_or, drop}
use lib.Seq.{get_or-drop}
use borrow.Author.Tests.{lt-ltb}
use Rattle.terms.specs.Value.{value}
use Rattle.pool.specs.Unfold.{unfold_at}
use Rattle.gates.specs.Graph.{truth, gates_ok, graph_ok}
use Rattle.gates.specs.Grow.{Grown, Builds, Room, negated}
use Rattle.gates.proofs.Laws.{grown-same, grown-trans, is_made, is-not}
use Rattle.gates_words.specs.Number.{sum, bit_at, number}
use Rattle.gates_words.specs.Words.{Low, Reads}
use Rattle.gates_words.proofs.Sums.{sum_same, sum-high, sum_low}
use Rattle.gates_words.proofs.Loops.{number-kept, low-kept}
use Rattle.gates_pool.specs.Bits.{Start}
use Rattle.gates_question.specs.Question.{gates_of_two, Asks}
use Rattle.gates_question.specs.Build.{Ready, Both, words_differ}
use Rattle.gates_question.proofs.Refusals.{Passed}

-- ---- a part of a word

part : (start : ℕ → ℕ) (g bits : List ℕ) (a lo w : ℕ) → lo + w ≤ 128 → number start g bits (a + lo) w ≡ number start g bits a 128 / 2 ^ lo % 2 ^ w
part start g bits a lo w l =
    let rest = 128 - (lo + w) in
    let split : 128 ≡ lo + (w + rest) = omega arith in
    let f = bit_at start g bits a in
    sum_same (bit_at start g bits (a + lo)) (λ j. f (lo + j)) w
    (λ j h. ap (λ (m : ℕ). truth start g (get_or bits m 0)) {x = a + lo + j} {y = a + (lo + j)} (omega arith))
    ∙ sym (sum_low (λ j. f (lo + j)) w rest)
    ∙ ap (λ (m : ℕ). m % 2 ^ w) (sym (sum-high f lo (w + rest)))
    ∙ ap (λ (m : ℕ). sum f m / 2 ^ lo % 2 ^ w) (sym split)

pub part-reads : {bits : List ℕ} {a k : ℕ} (lo w : ℕ) → lo + w ≤ 128 → Reads bits a 128 k → Reads bits (a + lo) w k
part-reads {bits} {a} {k} lo w l r =
    record {
      inside = omega (arith, r.inside);
      low = λ j h. let e : a + lo + j ≡ a + (lo + j) = omega arith in rw e (r.low (lo + j) (omega arith));
    }

pub differs : {g h : List ℕ} {k l r n m : ℕ} (bits : List ℕ) (a b lo w : ℕ) → lo + w ≤ 128 → r ≡ negated l
    → Builds g k h l n m (λ start. eqb (number start g bits (a + lo) w) (number start g bits (b + lo) w))
    → Builds g k h r n m (λ start. words_differ start g bits a b lo w)
differs {g} bits a b lo w le e made =
    let i = is-not (is_made made (λ start x. eqb (part start g bits a lo w le x) (part start g bits b lo w le x))) in
    rw e (record { grown = made.grown; most = made.most; under = i.under; is = i.true-at })

-- ---- a node of each pool

pub ready : {ws ws' g bits : List ℕ} {n m a b hi lo : ℕ} → Passed ws n ws' m a b hi lo (length g) (length bits) → Ready ws n ws' m g bits
ready p =
    record {
      first = p.first;
      second = p.second;
      room = record { words = omega (arith, p.gates); numbers = omega (arith, p.few-gates) };
      places = p.places;
    }

module _ {ws ws' g bits g₁ bits₁ : List ℕ} {n m a b hi lo k : ℕ} (p : Passed ws n ws' m a b hi lo (length g) (length bits))
    (d : Both ws n ws' m g bits g₁ k bits₁) where
  first-low : Low bits₁ (129 * a) 128 k
  first-low = rw p.a-wide at (d.first.low a p.a-less)

  second-low : Low (drop (129 * n) bits₁) (129 * b) 128 k
  second-low = rw p.b-wide at (d.second.low b p.b-less)

  moved : (j : ℕ) → j < 128 → get_or bits₁ (129 * (n + b) + j) 0 ≡ get_or (drop (129 * n) bits₁) (129 * b + j) 0
  moved j l = ap (λ (q : ℕ). get_or bits₁ q 0) {x = 129 * (n + b) + j} {y = 129 * n + (129 * b + j)} (omega arith) ∙ sym
      (get_or-drop (129 * n) bits₁ (129 * b + j) 0)

  pub first_reads : Reads bits₁ (129 * a) 128 k
  first_reads = record { inside = omega (arith, p.places, p.a-less, d.size); low = first-low }

  pub second_reads : Reads bits₁ (129 * (n + b)) 128 k
  second_reads =
      record {
        inside = omega (arith, p.places, p.b-less, d.size);
        low = low-kept (drop (129 * n) bits₁) bits₁ (129 * b) (129 * (n + b)) 128 (omega arith) second-low moved;
      }

  first-number : (start : ℕ → ℕ) → Start start → number start g₁ bits₁ (129 * a) 128 ≡ value start (unfold_at ws a)
  first-number start small = rw p.a-wide at (d.first.is start small a p.a-less)

  second-number : (start : ℕ → ℕ) → Start start → number start g₁ bits₁ (129 * (n + b)) 128 ≡ value start (unfold_at ws' b)
  second-number start small =
      let h = d.second.is start small b p.b-less in
      number-kept start (drop (129 * n) bits₁) bits₁ (129 * b) (129 * (n + b)) 128 (grown-same g₁ k) second-low moved
      ∙ (rw p.b-wide at h)

  pub room : Room g₁ k (4 * (hi - lo + 1))
  room =
      record {
        words = omega (arith, p.gates, p.ordered, p.inside-128, d.most, d.grown.long);
        numbers = omega (arith, p.few-gates, p.ordered, p.inside-128, d.most);
      }

  module _ {h : List ℕ} {l c : ℕ}
      (made : Builds g₁ k h l c (4 * (hi - lo + 1)) (λ start. words_differ start g₁ bits₁ (129 * a) (129 * (n + b)) lo (hi - lo + 1))) where
    pub few : c ≤ gates_of_two ws n ws' m
    few = omega (arith, made.most, d.most, p.ordered, p.inside-128)

    grown : Grown g 0 h c
    grown = grown-trans d.grown made.grown

    pub asks : Asks ws a ws' b hi lo h c l
    unfolding graph_ok gates_ok
    asks =
        record {
          good = rw (lt-ltb c (suc (length h)) (omega (arith, few, p.gates, grown.long)), grown.valid refl);
          under = made.under;
          is = λ start small.
              made.is start
              ∙ (λ i. not (eqb (first-number start small i / 2 ^ lo % 2 ^ add-one (hi - lo) i)
              (second-number start small i / 2 ^ lo % 2 ^ add-one (hi - lo) i)));
        }

    pub graph_size : length h ≡ length g
    graph_size = grown.long
