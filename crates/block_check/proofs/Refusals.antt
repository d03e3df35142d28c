-- The refusals of records in order and of a block. Assumes nothing.
use mathlib.Core.Path.{◌≡◌, refl, sym, ap, subst, ◌∙◌}
use mathlib.Core.Bool.{Bool, true, false, cond}
use mathlib.Core.List.{List, [], ◌∷◌, ◌++◌}
use Prim.Native.Nat.{ℕ, zero, suc, ◌+◌, ◌-◌, ◌*◌, ◌/◌, ◌≤◌, ◌<◌}
use native.Mathlib.Omega.{arith}
use native.Mathlib.Nat.{add-zero, zero-add, le_of_suc-le-suc, not-suc-le-zero, min-le_left, le-min}
use native.Mathlib.Numerals.{add-one}
use lib.Dec.{leb, eqb}
use lib.ListN.{length}
use borrow.Author.Tests.{le-leb, lt-leb, eq-eqb, ne_eqb, eqb-true, eqb-false, leb-true}
use Rattle.std.specs.declared.result.Result.TheVariants.{Ok, Err}
use Rattle.facts.specs.declared.Refusal as facts
use Rattle.facts.specs.Answer.{code}
use Rattle.facts.specs.Refuse.{unless}
use Rattle.facts.proofs.Answers.{code-positive}
use Rattle.neon.specs.declared.Instruction.{Instruction}
use Rattle.neon.specs.Refusal.{Refusal, reserve, most_records, record_number, Legal, AllLegal, refusal, records_refusal, size_number, refusal_by, block_refusal}
use Rattle.pool.specs.Node.{none, places_in}
use Rattle.block_record_check.specs.Record.{record_at}
use Rattle.block_check.specs.Records.{records_from, records_of, Refuses}

-- ---- records in order

pub from-length : (flat : List ℕ) (j k : ℕ) → length (records_from flat j k) ≡ k
unfolding records_from
from-length flat j zero = refl
from-length flat j (suc k) = ap suc (from-length flat (suc j) k)

-- the first of k records, and those after it
from_next : (flat : List ℕ) (j k : ℕ) → j < k → records_from flat j (k - j) ≡ record_at flat j ∷ records_from flat (suc j) (k - suc j)
unfolding records_from
from_next flat j k h = ap (λ (n : ℕ). records_from flat j n) {x = k - j} {y = suc (k - suc j)} (omega arith)

module _ (flat : List ℕ) where
  -- the records before place j are accepted: what refuses the others refuses them all
  abbrev pub Passed : ℕ → Type 0
  Passed j = records_refusal j (records_from flat j (length flat / 6 - j)) ≡ records_refusal 0 (records_of flat)

  pub none_passed : Passed 0
  none_passed = ap (λ (n : ℕ). records_refusal 0 (records_from flat 0 n)) {x = length flat / 6 - 0} {y = length flat / 6} (omega arith)

  pub passed-more : (j : ℕ) → Passed j → j < length flat / 6 → 0 ≡ record_number (record_at flat j) → Passed (j + 1)
  unfolding records_refusal
  passed-more j s h n =
      sym (rw (from_next flat j (length flat / 6) h, eq-eqb (record_number (record_at flat j)) 0 (omega (arith, n)), add-one j)) ∙ s

  pub refused-here : (r : facts.Refusal) (j : ℕ) → Passed j → j < length flat / 6 → code r ≡ record_number (record_at flat j)
      → Refuses {A = Unit {0}} (Err (record { refusal = r; position = j })) (records_refusal 0 (records_of flat))
  unfolding records_refusal
  refused-here r j s h n =
      let e : records_refusal 0 (records_of flat) ≡ refusal (record_number (record_at flat j)) j =
      sym s ∙ rw (from_next flat j (length flat / 6) h, ne_eqb (record_number (record_at flat j)) 0 (λ z. code-positive r (n ∙ z))) in
      (n ∙ sym (ap (λ (x : Refusal). x.number) e), sym (ap (λ (x : Refusal). x.position) e))

  pub all-passed : (j : ℕ) → Passed j → length flat / 6 ≤ j → Refuses {A = Unit {0}} (Ok tt) (records_refusal 0 (records_of flat))
  unfolding records_refusal records_from
  all-passed j s h =
      let e : records_refusal 0 (records_of flat) ≡ refusal 0 0 =
      sym s ∙ ap (λ (n : ℕ). records_refusal j (records_from flat j n)) {x = length flat / 6 - j} {y = 0} (omega arith) in
      (sym (ap (λ (x : Refusal). x.number) e), sym (ap (λ (x : Refusal). x.position) e))

-- ---- a block

module _ (words count : ℕ) where
  pub too_long : most_records < count → 8 ≡ size_number (places_in words) count
  unfolding size_number
  too_long h = rw (lt-leb count most_records h)

  pub no_room : count ≤ most_records → words / 4 < 32 + reserve * count → 6 ≡ size_number (places_in words) count
  unfolding size_number
  no_room h l = rw (le-leb count most_records h, lt-leb (32 + reserve * count) (places_in words) (omega (arith, min-le_left (words / 4) none)))

  pub has_room : count ≤ most_records → 32 + reserve * count ≤ words / 4 → 0 ≡ size_number (places_in words) count
  unfolding size_number
  has_room h l = rw (le-leb count most_records h, le-leb (32 + reserve * count) (places_in words) (le-min l (omega arith)))

-- a block by the number of its size
module _ (size : ℕ) (cs : List Instruction) where
  -- refused for its size
  pub by_size : (r : facts.Refusal) → size ≡ code r → Refuses {A = Unit {0}} (Err (record { refusal = r; position = 0 })) (refusal_by size cs)
  by_size r e = rw (ne_eqb size 0 (λ z. code-positive r (sym e ∙ z))) (sym e, refl)

  -- the size is accepted: the records decide
  pub by-records : size ≤ 0 → refusal_by size cs ≡ records_refusal 0 cs
  by-records h = rw (eq-eqb size 0 (omega arith))

-- ---- what is accepted

pub all-legal : (p : ℕ) (cs : List Instruction) → (records_refusal p cs).number ≡ 0 → AllLegal cs
unfolding records_refusal
all-legal p [] e = tt
all-legal p (c ∷ cs) e = go (λ z. all-legal (suc p) cs z) (eqb (record_number c) 0) refl e
  where
    go : ((records_refusal (suc p) cs).number ≡ 0 → AllLegal cs) → (b : Bool) → eqb (record_number c) 0 ≡ b
        → (cond b (records_refusal (suc p) cs) (refusal (record_number c) p)).number ≡ 0
        → AllLegal (c ∷ cs)
    go f true q z = (eqb-true (record_number c) 0 q, f z)
    go f false q z = absurd (eqb-false (record_number c) 0 q z)

-- a size that is accepted, and records
pub legal-by : (size : ℕ) (cs : List Instruction) → (refusal_by size cs).number ≡ 0 → (size ≡ 0) × AllLegal cs
legal-by size cs e = go (eqb size 0) refl e
  where
    go : (b : Bool) → eqb size 0 ≡ b → (cond b (records_refusal 0 cs) (refusal size 0)).number ≡ 0 → (size ≡ 0) × AllLegal cs
    go true q z = (eqb-true _ 0 q, all-legal 0 cs z)
    go false q z = absurd (eqb-false _ 0 q z)

-- n records, at most so many, that need so many places of p
pub size-legal : (n greatest need p : ℕ) → unless (leb n greatest) 8 (unless (leb need p) 6 0) ≡ 0 → (n ≤ greatest) × (need ≤ p)
size-legal n greatest need p e = go (leb n greatest) (leb need p) refl refl e
  where
    go : (a b : Bool) → leb n greatest ≡ a → leb need p ≡ b → unless a 8 (unless b 6 0) ≡ 0 → (n ≤ greatest) × (need ≤ p)
    go true true q r z = (leb-true _ _ q, leb-true _ _ r)
    go true false q r z = absurd (omega arith)
    go false b q r z = absurd (omega arith)

-- a block that is accepted: its records fit and are accepted
pub block-legal : (p : ℕ) (cs : List Instruction) → (block_refusal p cs).number ≡ 0 → (length cs ≤ most_records) × (32 + reserve * length cs ≤ p) × AllLegal cs
unfolding block_refusal size_number
block-legal p cs e =
    let l = legal-by _ cs e in
    let s = size-legal (length cs) most_records (32 + reserve * length cs) p l.0 in
    (s.0, s.1, l.1)

-- record j + n of records that are accepted
pub legal-at : (flat : List ℕ) (j k n : ℕ) → AllLegal (records_from flat j k) → n < k → Legal (record_at flat (j + n))
unfolding records_from
legal-at flat j zero n l h = absurd (not-suc-le-zero h)
legal-at flat j (suc k) zero l h = rw (add-zero j) l.0
legal-at flat j (suc k) (suc n) l h =
    subst (λ (i : ℕ). Legal (record_at flat i)) {x = suc j + n} {y = j + suc n} (omega arith) (legal-at flat (suc j) k n l.1 (le_of_suc-le-suc h))

pub legal-here : (flat : List ℕ) (j : ℕ) → AllLegal (records_of flat) → j < length flat / 6 → Legal (record_at flat j)
legal-here flat j l h = rw zero-add at (legal-at flat 0 (length flat / 6) j l h)

-- one record more
pub from_more : (flat : List ℕ) (j k : ℕ) → records_from flat j (suc k) ≡ records_from flat j k ++ record_at flat (j + k) ∷ []
unfolding records_from
from_more flat j zero = rw (add-zero j)
from_more flat j (suc k) =
    ap (λ (l : List Instruction). record_at flat j ∷ l)
    (from_more flat (suc j) k ∙ ap (λ (i : ℕ). records_from flat (suc j) k ++ record_at flat i ∷ []) {x = suc j + k} {y = j + suc k} (omega arith))
