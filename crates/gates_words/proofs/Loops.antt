-- Loops that write a literal a turn: what the first i turns leave, and one turn more. Assumes nothing.
use mathlib.Core.Path.{◌≡◌, refl, sym, ap, ◌∙◌, subst}
use mathlib.Core.Bool.{Bool}
use mathlib.Core.List.{List}
use mathlib.Core.Logic.{◌⊎◌, inl, inr, ⊎_elim}
use Prim.Native.Nat.{ℕ, ◌+◌, ◌*◌, ◌^◌, ◌≤◌, ◌<◌}
use native.Mathlib.Nat.{not-suc-le-zero}
use native.Mathlib.Omega.{arith}
use lib.ListN.{length, get_or, set, length-set}
use lib.Seq.{get_or-set_same, get_or-set_other}
use Rattle.facts.proofs.Numbers.{before-or-from}
use Rattle.terms.specs.Value.{bit}
use Rattle.gates.specs.Graph.{truth}
use Rattle.gates.specs.Grow.{Grown, Under}
use Rattle.gates.proofs.Truth.{same_truth}
use Rattle.gates.proofs.Laws.{grown-same, grown-trans}
use Rattle.gates_words.specs.Number.{sum, bit_at, number}
use Rattle.gates_words.specs.Words.{Low, Operand, Puts, Put, Run, Writes}
use Rattle.gates_words.proofs.Sums.{sum_same, sum-next, sum_lt}

-- below i + 1: below i, or i
last-or-before : (i j : ℕ) → j < i + 1 → (j < i) ⊎ (j ≡ i)
last-or-before i j h = ⊎_elim inl (λ l. inr (omega (arith, l, h))) (before-or-from j i)

-- ---- literals that are put

pub puts-more : {bits new : List ℕ} {out i : ℕ} (h : ℕ → ℕ) (l : ℕ) → out + i < length bits → Puts bits new out i h → l ≡ h i
    → Puts bits (set new (out + i) l) out (i + 1) h
puts-more {bits} {new} {out} {i} h l b e q =
    record {
      size = length-set new (out + i) l ∙ e.size;
      before = λ p d. get_or-set_other new (out + i) p l 0 (λ x. omega (arith, x, d)) ∙ e.before p d;
      after = λ p d. get_or-set_other new (out + i) p l 0 (λ x. omega (arith, x, d)) ∙ e.after p (omega arith);
      at = λ j d.
          ⊎_elim (λ s. get_or-set_other new (out + i) (out + j) l 0 (λ x. omega (arith, x, s)) ∙ e.at j s)
          (λ s. subst (λ (k : ℕ). get_or (set new (out + i) l) (out + k) 0 ≡ h k) (sym s) (get_or-set_same new (out + i) l 0 (omega (arith, e.size, b)) ∙ q))
          (last-or-before i j d);
    }

-- ---- words that stay

-- a number goes by its literals, and stays what it is while the graph grows
pub number-kept : {g h : List ℕ} {k m : ℕ} (start : ℕ → ℕ) (bits new : List ℕ) (at to w : ℕ) → Grown g k h m → Low bits at w k
    → ((j : ℕ) → j < w → get_or new (to + j) 0 ≡ get_or bits (at + j) 0) → number start h new to w ≡ number start g bits at w
number-kept {g} {h} {k} start bits new at to w e low same =
    sum_same (bit_at start h new to) (bit_at start g bits at) w
    (λ j l. ap (truth start h) (same j l) ∙ same_truth start g h k (get_or bits (at + j) 0) e.kept (low j l))

pub low-kept : {k m : ℕ} (bits new : List ℕ) (at to w : ℕ) → k ≤ m → Low bits at w k → ((j : ℕ) → j < w → get_or new (to + j) 0 ≡ get_or bits (at + j) 0)
    → Low new to w m
low-kept bits new at to w le low same j l = rw (same j l) (omega (arith, low j l, le))

-- ---- a turn

pub run_none : (g : List ℕ) (k : ℕ) (bits : List ℕ) (out : ℕ) → Run g k bits g k bits out 0 0
run_none g k bits out =
    record {
      grown = grown-same g k;
      most = omega arith;
      size = refl;
      before = λ p l. refl;
      after = λ p l. refl;
      low = λ j l. absurd (not-suc-le-zero l);
    }

module _ {g bits h new : List ℕ} {k n out i m : ℕ} (r : Run g k bits h n new out i m) where
  -- a place that the turns so far have not written
  pub place_kept : {at w : ℕ} → Operand bits at out w k → i < w → get_or new (at + i) 0 ≡ get_or bits (at + i) 0
  place_kept {at} {w} o l = ⊎_elim (λ a. r.before (at + i) (omega (arith, a, l))) (λ a. r.after (at + i) (omega (arith, a))) o.apart

  pub place-low : {at w : ℕ} → Operand bits at out w k → i < w → Under (get_or new (at + i) 0) n
  place-low o l = rw (place_kept o l) (omega (arith, r.grown.more, o.low i l))

  pub place-truth : (start : ℕ → ℕ) {at w : ℕ} → Operand bits at out w k → i < w → truth start h (get_or new (at + i) 0) ≡ bit_at start g bits at i
  place-truth start {at} o l = ap (truth start h) (place_kept o l) ∙ same_truth start g h k (get_or bits (at + i) 0) r.grown.kept (o.low i l)

  module _ {h' new' : List ℕ} {n' m' : ℕ} {t : (ℕ → ℕ) → Bool} (inside : out + i < length bits) (p : Put h n new h' n' new' (out + i) m' t) where
    new-other : (q : ℕ) → (q ≡ out + i → ⊥) → get_or new' q 0 ≡ get_or new q 0
    new-other q d = ap (λ (x : List ℕ). get_or x q 0) p.1 ∙ get_or-set_other new (out + i) q p.0 0 d

    new-here : get_or new' (out + i) 0 ≡ p.0
    new-here = ap (λ (x : List ℕ). get_or x (out + i) 0) p.1 ∙ get_or-set_same new (out + i) p.0 0 (omega (arith, r.size, inside))

    pub run_more : {all : ℕ} → m + m' ≤ all → Run g k bits h' n' new' out (i + 1) all
    run_more le =
        record {
          grown = grown-trans r.grown p.2.grown;
          most = omega (arith, r.most, p.2.most, le);
          size = ap length p.1 ∙ length-set new (out + i) p.0 ∙ r.size;
          before = λ q l. new-other q (λ e. omega (arith, e, l)) ∙ r.before q l;
          after = λ q l. new-other q (λ e. omega (arith, e, l)) ∙ r.after q (omega arith);
          low = λ j l.
              ⊎_elim (λ s. rw (new-other (out + j) (λ e. omega (arith, e, s))) (omega (arith, r.low j s, p.2.grown.more)))
              (λ s. rw s (rw new-here p.2.under))
              (last-or-before i j l);
        }

    pub number_more : (start : ℕ → ℕ) → number start h' new' out (i + 1) ≡ number start h new out i + bit (t start) * 2 ^ i
    number_more start =
        sum-next (bit_at start h' new' out) i
        ∙ (λ z. low_part z + bit (top z) * 2 ^ i)
      where
        low_part : number start h' new' out i ≡ number start h new out i
        low_part = number-kept start new new' out out i p.2.grown r.low (λ j l. new-other (out + j) (λ e. omega (arith, e, l)))

        top : bit_at start h' new' out i ≡ t start
        top = ap (truth start h') new-here ∙ p.2.is start

-- ---- words bit by bit: the bit is f of two bits, the number F of two numbers

abbrev pub Step : ((ℕ → ℕ) → Bool → Bool → Bool) → ((ℕ → ℕ) → ℕ → ℕ → ℕ) → Type 0
Step f F = (start : ℕ → ℕ) (i x y : ℕ) (p q : Bool) → x < 2 ^ i → y < 2 ^ i → F start x y + bit (f start p q) * 2 ^ i ≡ F start (x + bit p * 2 ^ i)
    (y + bit q * 2 ^ i)

pub writes-none : (F : (ℕ → ℕ) → ℕ → ℕ → ℕ) (g : List ℕ) (k : ℕ) (bits : List ℕ) (out a b : ℕ) → ((start : ℕ → ℕ) → F start 0 0 ≡ 0)
    → Writes g k bits g k bits out 0 0 (λ start. F start (number start g bits a 0) (number start g bits b 0))
unfolding sum
writes-none F g k bits out a b e = record { run = run_none g k bits out; is = λ start. sym (e start) }

pub writes_more : (f : (ℕ → ℕ) → Bool → Bool → Bool) (F : (ℕ → ℕ) → ℕ → ℕ → ℕ) → Step f F
    → {g bits h new h' new' : List ℕ} {k n n' out i m m' all : ℕ} {t : (ℕ → ℕ) → Bool} (a b : ℕ)
    → Writes g k bits h n new out i m (λ start. F start (number start g bits a i) (number start g bits b i))
    → out + i < length bits → Put h n new h' n' new' (out + i) m' t
    → ((start : ℕ → ℕ) → t start ≡ f start (bit_at start g bits a i) (bit_at start g bits b i)) → m + m' ≤ all
    → Writes g k bits h' n' new' out (i + 1) all (λ start. F start (number start g bits a (i + 1)) (number start g bits b (i + 1)))
writes_more f F step {g} {bits} {i = i} a b w inside p q le =
    record {
      run = run_more w.run inside p le;
      is = λ start.
          number_more w.run inside p start
          ∙ (λ z. w.is start z + bit (q start z) * 2 ^ i)
          ∙ step start i (number start g bits a i) (number start g bits b i) (bit_at start g bits a i) (bit_at start g bits b i)
          (sum_lt (bit_at start g bits a) i) (sum_lt (bit_at start g bits b) i)
          ∙ (λ z. F start (sym (sum-next (bit_at start g bits a) i) z) (sym (sum-next (bit_at start g bits b) i) z));
    }
