-- What an accepted record says: each test of its refusals is passed. Assumes nothing.
use mathlib.Core.Path.{◌≡◌, refl}
use mathlib.Core.Bool.{Bool, true, false, cond, ◌&&◌}
use Prim.Native.Nat.{ℕ, ◌≤◌, ◌<◌}
use native.Mathlib.Omega.{arith}
use lib.Dec.{leb}
use borrow.Author.Tests.{leb-true}
use Rattle.facts.specs.Refuse.{unless}
use Rattle.facts.proofs.Tests.{and_both, passed}
use Rattle.neon.specs.declared.Instruction.{Instruction}
use Rattle.neon.specs.Op.{Op, is_operation, op_at, Arrangement, is_arrangement, arrangement_at, bits_of_lane}
use Rattle.neon.specs.Form.{has_form, least, most, has_second}
use Rattle.neon.specs.Refusal.{form_number, Formed, short_element, most_m, registers_ok, record_number, Legal}

pub formed : (operation arrangement i rest : ℕ) → form_number operation arrangement i rest ≡ 0 → Formed operation arrangement i × (rest ≡ 0)
formed operation arrangement i rest e =
    let o = op_at operation in
    let v = arrangement_at arrangement in
    let p = passed (is_operation operation) (λ z. omega arith) e in
    let q = passed (is_arrangement arrangement && has_form o v) (λ z. omega arith) p.1 in
    let s = passed (leb (least o) i && leb i (most o (bits_of_lane v))) (λ z. omega arith) q.1 in
    let pp = and_both (leb 1 operation) (leb operation 67) p.0 in
    let qq = and_both (is_arrangement arrangement) (has_form o v) q.0 in
    let ss = and_both (leb (least o) i) (leb i (most o (bits_of_lane v))) s.0 in (
      record {
        from_one = leb-true _ _ pp.0;
        to_last = leb-true _ _ pp.1;
        arranged = leb-true _ _ qq.0;
        row = qq.1;
        low = leb-true _ _ ss.0;
        high = leb-true _ _ ss.1;
      },
      s.1,
    )

-- so are the registers
pub record Accepted (c : Instruction) : Type 0 where
  pub form_of : Formed c.operation c.arrangement c.i
  pub at-d : c.d ≤ 31
  pub at_n : c.n ≤ 31
  pub at-m : c.m ≤ most_m (op_at c.operation) (arrangement_at c.arrangement)

pub accepted : (c : Instruction) → Legal c → Accepted c
unfolding record_number
accepted c e =
    let f = formed c.operation c.arrangement c.i (unless (registers_ok c) 7 0) e in
    let p = passed (registers_ok c) (λ z. omega arith) f.1 in
    let q = and_both (leb c.d 31 && leb c.n 31) (leb c.m (most_m (op_at c.operation) (arrangement_at c.arrangement))) p.0 in
    let s = and_both (leb c.d 31) (leb c.n 31) q.0 in
    record { form_of = f.0; at-d = leb-true _ _ s.0; at_n = leb-true _ _ s.1; at-m = leb-true _ _ q.1 }

-- m names a register in any case
pub m-le : (o : Op) (v : Arrangement) → most_m o v ≤ 31
m-le o v = go (has_second o) (short_element o v)
  where
    go : (b s : Bool) → cond b (cond s 15 31) 0 ≤ 31
    go true true = omega arith
    go true false = omega arith
    go false s = omega arith

pub registers-in : (c : Instruction) → Legal c → (c.d < 32) × (c.n < 32) × (c.m < 32)
registers-in c l =
    let a = accepted c l in
    (omega (arith, a.at-d), omega (arith, a.at_n), omega (arith, a.at-m, m-le (op_at c.operation) (arrangement_at c.arrangement)))

-- ---- what follows the tests on the form is looked at if they pass, and only then

rest_of : (a b c : Bool) (rest : ℕ) → unless a 2 (unless b 3 (unless c 4 0)) ≡ 0 → unless a 2 (unless b 3 (unless c 4 rest)) ≡ rest
rest_of true true true rest e = refl
rest_of true true false rest e = absurd (omega (arith, e))
rest_of true false c rest e = absurd (omega (arith, e))
rest_of false b c rest e = absurd (omega (arith, e))

first_of : (a b c : Bool) (rest : ℕ) → (unless a 2 (unless b 3 (unless c 4 0)) ≡ 0 → ⊥)
    → unless a 2 (unless b 3 (unless c 4 0)) ≡ unless a 2 (unless b 3 (unless c 4 rest))
first_of true true true rest f = absurd (f refl)
first_of true true false rest f = refl
first_of true false c rest f = refl
first_of false b c rest f = refl

module _ (operation arrangement i rest : ℕ) where
  abbrev o : Op
  o = op_at operation

  abbrev v : Arrangement
  v = arrangement_at arrangement

  pub form-rest : form_number operation arrangement i 0 ≡ 0 → form_number operation arrangement i rest ≡ rest
  form-rest e =
      rest_of (is_operation operation) (is_arrangement arrangement && has_form o v) (leb (least o) i && leb i (most o (bits_of_lane v))) rest e

  pub form-first : (form_number operation arrangement i 0 ≡ 0 → ⊥) → form_number operation arrangement i 0 ≡ form_number operation arrangement i rest
  form-first f =
      first_of (is_operation operation) (is_arrangement arrangement && has_form o v) (leb (least o) i && leb i (most o (bits_of_lane v))) rest f
