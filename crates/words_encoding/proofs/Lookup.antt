-- The operation that a word's fields name, found in a table. Assumes nothing.
use mathlib.Core.Path.{◌≡◌, refl, sym, ap, ◌∙◌, subst}
use mathlib.Core.Bool.{Bool, true, false, cond, ◌&&◌, ◌||◌, false≢true}
use Prim.Native.Nat.{ℕ, zero, suc, ◌+◌, ◌-◌, ◌*◌, ◌/◌, ◌%◌, ◌^◌, ◌≤◌, ◌<◌}
use native.Mathlib.Omega.{arith}
use lib.Dec.{eqb}
use borrow.Author.Tests.{eqb-true}
use Rattle.facts.proofs.Tests.{and_both, bit-true}
use Rattle.facts.proofs.Table.{tabulate, agree}
use Rattle.neon.specs.Op.{operations, op_at}
use Rattle.neon.specs.Form.{form}
use Rattle.words_encoding.specs.Encoding.{Class, ShiftByImmediate, ThreeSame, ThreeDifferent, TwoMiscellaneous, ByElement, TwoMiscellaneous01, encoding}
use Rattle.terms.specs.Value.{bit}
use Rattle.words_encoding.specs.Decode.{bits, class_number, class_at, opcode_at, upper_is, is_coded, operation_of, operation_at, size_at, size_of_immh}
use Rattle.words_encoding.specs.Parts.{key_of}
use Rattle.words_encoding.proofs.Operations.{same_bit, same_bits, is-01}

-- ---- the last operation that has the fields

step : (c Q U x k : ℕ) (b : Bool) → is_coded c Q U x (op_at (suc k)) ≡ b → operation_of c Q U x (suc k) ≡ cond b (suc k) (operation_of c Q U x k)
unfolding operation_of
step c Q U x k true e = rw (operation_of, e)
step c Q U x k false e = rw (operation_of, e)

pub operation-le : (c Q U x k : ℕ) → operation_of c Q U x k ≤ k
unfolding operation_of
operation-le c Q U x zero = omega arith
operation-le c Q U x (suc k) = go (is_coded c Q U x (op_at (suc k))) refl (operation-le c Q U x k)
  where
    go : (b : Bool) → is_coded c Q U x (op_at (suc k)) ≡ b → operation_of c Q U x k ≤ k → operation_of c Q U x (suc k) ≤ suc k
    go true e h = omega (arith, step c Q U x k true e)
    go false e h = omega (arith, step c Q U x k false e)

found-coded : (c Q U x k j : ℕ) → 1 ≤ j → operation_of c Q U x k ≡ j → is_coded c Q U x (op_at j) ≡ true
unfolding operation_of
found-coded c Q U x zero j l e = absurd (omega arith)
found-coded c Q U x (suc k) j l e = go (is_coded c Q U x (op_at (suc k))) refl (found-coded c Q U x k j l)
  where
    go : (b : Bool) → is_coded c Q U x (op_at (suc k)) ≡ b → (operation_of c Q U x k ≡ j → is_coded c Q U x (op_at j) ≡ true) → is_coded c Q U x (op_at j) ≡ true
    go true h ih = let q : suc k ≡ j = sym (step c Q U x k true h) ∙ e in subst (λ (i : ℕ). is_coded c Q U x (op_at i) ≡ true) q h
    go false h ih = ih (sym (step c Q U x k false h) ∙ e)

pub class-is : (w k : ℕ) → 1 ≤ k → k ≡ operation_at w → class_at w ≡ class_number (encoding (op_at k)).class
unfolding operation_at
class-is w k l e =
    let c = class_at w in
    let Q = bits 30 30 w in
    let U = bits 29 29 w in
    let x = opcode_at (class_at w) w in
    let o = op_at k in
    let h = found-coded c Q U x 67 k l (sym e) in
    let p = and_both (eqb (class_number (encoding o).class) c && eqb (encoding o).U U && eqb (encoding o).opcode x) (upper_is (form o).lanes Q) h in
    let q = and_both (eqb (class_number (encoding o).class) c && eqb (encoding o).U U) (eqb (encoding o).opcode x) p.0 in
    let r = and_both (eqb (class_number (encoding o).class) c) (eqb (encoding o).U U) q.0 in
    sym (eqb-true (class_number (encoding o).class) c r.0)

-- ---- the table

abbrev pub rule : ℕ → ℕ → ℕ
rule q j =
    let c = j / 64 in
    cond (eqb c 0 || eqb c 3) (operation_of c (j / 32 % 2) (j / 16 % 2) (j % 16) 67) (operation_of c q (j / 32 % 2) (j % 32) 67)

pub rule-lt : (j : ℕ) → rule 0 j < 2 ^ 8
rule-lt j = let c = j / 64 in go (eqb c 0 || eqb c 3) (operation-le c (j / 32 % 2) (j / 16 % 2) (j % 16) 67) (operation-le c 0 (j / 32 % 2) (j % 32) 67)
  where
    go : (b : Bool) {x y : ℕ} → x ≤ 67 → y ≤ 67 → cond b x y < 2 ^ 8
    go true h g = omega arith
    go false h g = omega arith

-- Q matters only there
either : tabulate (rule 1) 0 320 ≡ tabulate (rule 0) 0 320
unfolding tabulate operation_of op_at operations
either = refl

rule-0 : (q j : ℕ) → q ≤ 1 → j < 320 → rule 0 j ≡ rule q j
rule-0 zero j h l = refl
rule-0 (suc zero) j h l = sym (agree (rule 1) (rule 0) 320 either j l)
rule-0 (suc (suc q)) j h l = absurd (omega arith)

four : (c Q U x : ℕ) → Q ≤ 1 → U ≤ 1 → x < 16 → let j = 64 * c + (32 * Q + 16 * U + x) in (j / 64 ≡ c) × (j / 32 % 2 ≡ Q) × (j / 16 % 2 ≡ U) × (j % 16 ≡ x)
four c Q U x hQ hU hx = (omega arith, omega arith, omega arith, omega arith)

five : (c U x : ℕ) → U ≤ 1 → x < 32 → let j = 64 * c + (32 * U + x) in (j / 64 ≡ c) × (j / 32 % 2 ≡ U) × (j % 32 ≡ x)
five c U x hU hx = (omega arith, omega arith, omega arith)

by-class : (c w : ℕ) → c ≤ 4 → rule (bits 30 30 w) (64 * c + key_of c w) ≡ operation_of c (bits 30 30 w) (bits 29 29 w) (opcode_at c w) 67
by-class zero w h = let p = four 0 (bits 30 30 w) (bits 29 29 w) (bits 15 12 w) (omega arith) (omega arith) (omega arith) in rw (p.0, p.1, p.2, p.3)
by-class (suc zero) w h = let p = five 1 (bits 29 29 w) (bits 15 11 w) (omega arith) (omega arith) in rw (p.0, p.1, p.2)
by-class (suc (suc zero)) w h = let p = five 2 (bits 29 29 w) (bits 16 12 w) (omega arith) (omega arith) in rw (p.0, p.1, p.2)
by-class (suc (suc (suc zero))) w h = let p = four 3 (bits 30 30 w) (bits 29 29 w) (bits 15 12 w) (omega arith) (omega arith) (omega arith) in rw (p.0, p.1, p.2, p.3)
by-class (suc (suc (suc (suc zero)))) w h = let p = five 4 (bits 29 29 w) (bits 15 11 w) (omega arith) (omega arith) in rw (p.0, p.1, p.2)
by-class (suc (suc (suc (suc (suc c))))) w h = absurd (omega arith)

pub looked-up : (w c k : ℕ) → c ≡ class_at w → c ≤ 4 → k ≡ key_of c w → k < 64 → rule 0 (64 * c + k) ≡ operation_at w
unfolding operation_at
looked-up w c k e h q l =
    rule-0 (bits 30 30 w) (64 * c + k) (omega arith) (omega arith)
    ∙ ap (λ (k : ℕ). rule (bits 30 30 w) (64 * c + k)) q
    ∙ by-class c w h
    ∙ ap (λ (c : ℕ). operation_of c (bits 30 30 w) (bits 29 29 w) (opcode_at c w) 67) e

-- ---- the size

abbrev rbit : ℕ → ℕ
rbit k = bit (same_bit (eqb (suc k) 63) (is-01 (encoding (op_at (suc k))).class))

all-rbit : tabulate rbit 0 67 ≡ tabulate (λ k. 1) 0 67
unfolding tabulate op_at operations
all-rbit = refl

rbit-is : (k : ℕ) → 1 ≤ k → k ≤ 67 → eqb k 63 ≡ is-01 (encoding (op_at k)).class
rbit-is zero l h = absurd (omega arith)
rbit-is (suc k) l h = same_bits _ _ (bit-true _ (agree rbit (λ k. 1) 67 all-rbit k (omega arith)))

size-shift : (cl : Class) (w x : ℕ) → 4 ≡ class_number cl → x ≡ size_of_immh (bits 22 19 w) → x ≡ size_at cl w
size-shift ShiftByImmediate w x e q = q
size-shift ThreeSame w x e q = absurd (omega arith)
size-shift ThreeDifferent w x e q = absurd (omega arith)
size-shift TwoMiscellaneous w x e q = absurd (omega arith)
size-shift ByElement w x e q = absurd (omega arith)
size-shift TwoMiscellaneous01 w x e q = absurd (omega arith)

size-01 : (cl : Class) (w : ℕ) → is-01 cl ≡ true → 0 ≡ size_at cl w
size-01 ShiftByImmediate w e = absurd (false≢true e)
size-01 ThreeSame w e = absurd (false≢true e)
size-01 ThreeDifferent w e = absurd (false≢true e)
size-01 TwoMiscellaneous w e = absurd (false≢true e)
size-01 ByElement w e = absurd (false≢true e)
size-01 TwoMiscellaneous01 w e = refl

size-else : (cl : Class) (w : ℕ) → (class_number cl ≡ 4 → ⊥) → is-01 cl ≡ false → bits 23 22 w ≡ size_at cl w
size-else ShiftByImmediate w f e = absurd (f refl)
size-else ThreeSame w f e = refl
size-else ThreeDifferent w f e = refl
size-else TwoMiscellaneous w f e = refl
size-else ByElement w f e = refl
size-else TwoMiscellaneous01 w f e = absurd (false≢true (sym e))

module _ (k w : ℕ) (l : 1 ≤ k) (h : k ≤ 67) where
  pub size-by-immh : (x : ℕ) → 4 ≡ class_number (encoding (op_at k)).class → x ≡ size_of_immh (bits 22 19 w) → x ≡ size_at (encoding (op_at k)).class w
  size-by-immh x e q = size-shift (encoding (op_at k)).class w x e q

  pub size-of-rbit : eqb k 63 ≡ true → 0 ≡ size_at (encoding (op_at k)).class w
  size-of-rbit e = size-01 (encoding (op_at k)).class w (sym (rbit-is k l h) ∙ e)

  pub size-by-field : (class_number (encoding (op_at k)).class ≡ 4 → ⊥) → eqb k 63 ≡ false → bits 23 22 w ≡ size_at (encoding (op_at k)).class w
  size-by-field f e = size-else (encoding (op_at k)).class w f (sym (rbit-is k l h) ∙ e)
