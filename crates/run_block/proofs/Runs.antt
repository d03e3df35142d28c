-- A record and a block on the registers. Assumes nothing.
use mathlib.Core.Path.{◌≡◌, refl, sym, ap, ap₂, ◌∙◌}
use mathlib.Core.Bool.{Bool, true, false, ◌||◌}
use mathlib.Core.List.{List, [], ◌∷◌, ◌++◌}
use Prim.Native.Nat.{ℕ, ◌+◌, ◌/◌, ◌≤◌, ◌<◌}
use native.Mathlib.Omega.{arith}
use native.Mathlib.Nat.{zero-add}
use native.Mathlib.Numerals.{add-one}
use lib.Dec.{leb}
use borrow.Author.Tests.{le-leb, lt-leb}
use lib.ListN.{length}
use Rattle.facts.proofs.Tests.{or_assoc}
use Rattle.neon.specs.declared.Instruction.{Instruction}
use Rattle.neon.specs.Op.{op_at, arrangement_at}
use Rattle.neon.specs.Run.{update, arm_step, arm_run}
use Rattle.neon.specs.Refusal.{Legal, most_records, records_refusal}
use Rattle.neon.proofs.Legal.{registers-in}
use Rattle.saturation.specs.Saturates.{saturates_step, saturates_run}
use Rattle.block_record_check.specs.Record.{record_at}
use Rattle.block_check.specs.Records.{records_from, records_of}
use Rattle.block_check.proofs.Refusals.{from_more, from-length}
use Rattle.run_block.specs.declared.Ran.{Ran}
use Rattle.wide.specs.Registers.{registers_of}
use Rattle.run_block.specs.Lanes.{number, Written}
use Rattle.run_block.specs.Run.{ResultOf, SteppedBy, RanBy, run_refusal, RunAnswered, FlagAnswered}

-- a record that is accepted reads and keeps registers below 32
module _ (c : Instruction) (k : Legal c) (f g : ℕ → ℕ) (e : (r : ℕ) → r < 32 → f r ≡ g r) where
  pub step_same : (r : ℕ) → r < 32 → arm_step c f r ≡ arm_step c g r
  unfolding arm_step
  step_same r h =
      let i = registers-in c k in
      rw (e c.d i.0, e c.n i.1, e c.m i.2, e r h)

  pub flag_same : saturates_step c f ≡ saturates_step c g
  unfolding saturates_step
  flag_same =
      let i = registers-in c k in
      rw (e c.d i.0, e c.n i.1, e c.m i.2)

-- ---- one record
pub stepped : (c : Instruction) (old new : List ℕ) (d a b : ℕ) (x : Ran) → d ≡ registers_of old c.d → a ≡ registers_of old c.n → b ≡ registers_of old c.m
    → ResultOf (op_at c.operation) (arrangement_at c.arrangement) c.i d a b x
    → Written old new c.d (number (record { low = x.low; high = x.high }))
    → SteppedBy c old new x.saturated
unfolding arm_step saturates_step
stepped c old new d a b x ed ea eb p w =
    let q = rw (ed, ea, eb) at p in
    record {
      registers_are = λ r h. w r h ∙ ap (λ (t : ℕ). update c.d t (registers_of old) r) q.bits_are;
      saturated_is = q.saturated_is;
    }

-- ---- one record more
arm_more : (cs : List Instruction) (c : Instruction) (regs : ℕ → ℕ) → arm_run (cs ++ c ∷ []) regs ≡ arm_step c (arm_run cs regs)
unfolding arm_run
arm_more [] c regs = refl
arm_more (x ∷ cs) c regs = arm_more cs c (arm_step x regs)

or-none : (b : Bool) → (b || false) ≡ b
or-none true = refl
or-none false = refl

flag-more : (cs : List Instruction) (c : Instruction) (regs : ℕ → ℕ) → saturates_run (cs ++ c ∷ []) regs ≡ (saturates_run cs regs || saturates_step c (arm_run cs regs))
unfolding saturates_run arm_run
flag-more [] c regs = or-none (saturates_step c regs)
flag-more (x ∷ cs) c regs =
    ap (λ (t : Bool). saturates_step x regs || t) (flag-more cs c (arm_step x regs))
    ∙ sym (or_assoc (saturates_step x regs) (saturates_run cs (arm_step x regs)) (saturates_step c (arm_run cs (arm_step x regs))))

pub ran-none : (ws : List ℕ) → RanBy [] ws ws false
unfolding arm_run saturates_run
ran-none ws = record { registers_are = λ r h. refl; saturated_is = refl }

ran-more : {cs : List Instruction} {c : Instruction} {old mid new : List ℕ} {s t : Bool} → Legal c → RanBy cs old mid s → SteppedBy c mid new t → RanBy (cs ++ c ∷ []) old new (s || t)
ran-more {cs} {c} {old} {mid} k p q = record {
  registers_are = λ r h. q.registers_are r h ∙ step_same c k (registers_of mid) (arm_run cs (registers_of old)) p.registers_are r h ∙ ap (λ (f : ℕ → ℕ). f r) (sym (arm_more cs c (registers_of old)));
  saturated_is = ap₂ ◌||◌ p.saturated_is (q.saturated_is ∙ flag_same c k (registers_of mid) (arm_run cs (registers_of old)) p.registers_are) ∙ sym (flag-more cs c (registers_of old));
}

-- ---- the flat records
pub ran-start : (flat ws : List ℕ) → RanBy (records_from flat 0 0) ws ws false
unfolding records_from
ran-start flat ws = ran-none ws

pub ran-next : (flat : List ℕ) (j : ℕ) {old mid new : List ℕ} {s t : Bool} → Legal (record_at flat j) → RanBy (records_from flat 0 j) old mid s → SteppedBy (record_at flat j) mid new t
    → RanBy (records_from flat 0 (j + 1)) old new (s || t)
ran-next flat j k p q = rw (add-one j, from_more flat 0 j, zero-add j) (ran-more k p q)

pub ran-all : (flat : List ℕ) (j : ℕ) {old new : List ℕ} {s : Bool} → j ≡ length flat / 6 → RanBy (records_from flat 0 j) old new s → RanBy (records_of flat) old new s
ran-all flat j e p = rw (← e) p

-- ---- the answer
module _ (flat ws : List ℕ) where
  abbrev Answer : (n p : ℕ) → List ℕ → Bool → Type 0
  Answer n p new s = RunAnswered ws (records_of flat) n p new × FlagAnswered ws (records_of flat) n s

  refused-by : {n p : ℕ} → 0 < n → n ≡ (run_refusal (records_of flat)).number → p ≡ (run_refusal (records_of flat)).position → Answer n p ws false
  refused-by l en ep = (
    record { number_is = en; position_is = ep; ran = λ z. absurd (omega arith); kept = λ z. refl },
    record { ran = λ z. absurd (omega arith); kept = λ z. refl },
  )

  pub too_many : most_records < length flat / 6 → Answer 8 0 ws false
  too_many h =
      let e : leb (length (records_of flat)) most_records ≡ false = rw (from-length flat 0 (length flat / 6)) (lt-leb (length flat / 6) most_records h) in
      refused-by (omega arith) (rw e) (rw e)

  module _ (h : length flat / 6 ≤ most_records) {n p : ℕ} (en : n ≡ (records_refusal 0 (records_of flat)).number) (ep : p ≡ (records_refusal 0 (records_of flat)).position) where
    few : leb (length (records_of flat)) most_records ≡ true
    few = rw (from-length flat 0 (length flat / 6)) (le-leb (length flat / 6) most_records h)

    pub refused : 0 < n → Answer n p ws false
    refused l = refused-by l (rw few en) (rw few ep)

    pub answered : {new : List ℕ} {s : Bool} → n ≤ 0 → RanBy (records_of flat) ws new s → Answer n p new s
    answered l r = (
      record { number_is = rw few en; position_is = rw few ep; ran = λ z. r.registers_are; kept = λ z. absurd (omega arith) },
      record { ran = λ z. r.saturated_is; kept = λ z. absurd (omega arith) },
    )
