-- The theorems of specs/Demand.antt: which operations can saturate, and what saturating is. Assumes nothing.
use mathlib.Core.Path.{◌≡◌, refl, sym, ap, ◌∙◌}
use mathlib.Core.Bool.{Bool, true, false, cond, ◌&&◌, ◌||◌, false≢true}
use mathlib.Core.Logic.{⊎_elim}
use Prim.Native.Nat.{ℕ, ◌*◌, ◌≤◌}
use native.Mathlib.Omega.{arith}
use lib.Dec.{leb, eqb}
use borrow.Author.Tests.{eqb-true, lt-leb}
use Rattle.terms.specs.Value.{bit}
use Rattle.facts.proofs.Numbers.{before-or-from}
use Rattle.facts.proofs.Table.{tabulate, agree}
use Rattle.facts.proofs.Tests.{bit-true}
use Rattle.facts.proofs.Tests.{and_both}
use Rattle.neon.specs.declared.Instruction.{Instruction}
use Rattle.neon.specs.Op.{op_at, operations, arrangement_at, arrangements}
use Rattle.neon.specs.Arm.{S, lane, clamp_z, c_s}
use Rattle.neon.specs.Refusal.{record_number}
use Rattle.neon.proofs.Legal.{accepted}
use Rattle.trees.specs.Neon.{neon_op}
use Rattle.saturation.specs.Saturates.{some, saturates, saturates_at, saturates_lane, saturates_step, outside, beyond_s, beyond_u}
use Rattle.saturation.specs.Bits.{saturable}
use Rattle.saturation.specs.Demand.{between, can_saturate, OthersNever, EachCan, OutsideIsAltered}
use Rattle.saturation.proofs.Block.{none, unsaturable}
use Rattle.saturation.proofs.Clip.{beyond_s-is, beyond_u-is}

bit-false : (b : Bool) → bit b ≡ 0 → b ≡ false
bit-false false e = refl
bit-false true e = absurd (omega (arith, e))

-- ---- the others never do

abbrev listed : ℕ → ℕ
listed k = bit (can_saturate k)

abbrev built : ℕ → ℕ
built k = bit (saturable (neon_op (op_at k) 0 false))

all_listed : tabulate listed 0 68 ≡ tabulate built 0 68
unfolding tabulate op_at operations can_saturate
all_listed = refl

pub others-never : OthersNever
unfolding saturates_step saturates saturates_at
others-never c l e regs =
    let last = (accepted c l).form_of.to_last in
    let never = bit-false _ (sym (agree listed built 68 all_listed c.operation (omega (arith, last))) ∙ ap bit e) in
    none _ _ (λ j. unsaturable (op_at c.operation) c.i 0 false never _ _ _ _)

-- ---- each of these can: v1 has 0x80 in each byte, v2 has 0x01, v3 has 0x8000 in each half word

abbrev each : (halfword : ℕ) → ℕ
each x = x * 5192376087906286159508272029171713

abbrev witness : ℕ → ℕ
witness r = cond (eqb r 1) (each 32896) (cond (eqb r 2) (each 257) (each 32768))

abbrev example : ℕ → Instruction
example k =
    record {
      operation = k;
      arrangement = cond (between 40 41 k) 2 (cond (between 42 53 k) 5 0);
      i = cond (between 2 4 k || between 32 37 k) 1 0;
      d = cond (between 54 55 k) 2 0;
      n = cond (between 21 22 k) 2 (cond (between 40 53 k) 3 1);
      m = cond (between 13 16 k) 2 (cond (between 19 22 k) 1 (cond (between 40 53 k) 3 0));
    }

abbrev shown : ℕ → ℕ
shown k = bit (cond (can_saturate k) (eqb (record_number (example k)) 0 && saturates_step (example k) witness) true)

all_shown : tabulate shown 0 56 ≡ tabulate (λ k. 1) 0 56
unfolding tabulate op_at operations arrangement_at arrangements can_saturate record_number saturates_step saturates saturates_at saturates_lane some outside beyond_s beyond_u S lane c_s clamp_z
all_shown = refl

-- the last operation of the list is 55
past : (k : ℕ) → 56 ≤ k → can_saturate k ≡ false
unfolding can_saturate
past k h =
    rw (lt-leb k 4 (omega arith), lt-leb k 16 (omega arith), lt-leb k 22 (omega arith), lt-leb k 29 (omega arith), lt-leb k 55 h)
    (ands (leb 2 k) (leb 13 k) (leb 19 k) (leb 27 k) (leb 32 k))
  where
    no : (a : Bool) → (a && false) ≡ false
    no true = refl
    no false = refl

    ands : (a b c d e : Bool) → ((a && false) || (b && false) || (c && false) || (d && false) || (e && false)) ≡ false
    ands a b c d e = rw (no a, no b, no c, no d, no e)

to_last : (k : ℕ) → can_saturate k ≡ true → k ≤ 55
to_last k e = ⊎_elim (λ l. omega arith) (λ h. absurd (false≢true (sym (past k h) ∙ e))) (before-or-from k 56)

pub each-can : EachCan
each-can k e =
    let p = agree shown (λ k. 1) 56 all_shown k (omega (arith, to_last k e)) in
    let q = and_both (eqb (record_number (example k)) 0) (saturates_step (example k) witness) (bit-true _ (rw e at p)) in
    (example k, witness, refl, eqb-true _ 0 q.0, q.1)

pub outside-is-altered : OutsideIsAltered
outside-is-altered n z = let s = beyond_s-is n z in let u = beyond_u-is n z in ((s.leaves, s.only), (u.leaves, u.only))
