-- The gates of a node by its kind: none without a circuit, and at most 166,410. Assumes nothing.
use mathlib.Core.Path.{◌≡◌, refl}
use mathlib.Core.List.{List}
use mathlib.Core.Logic.{⊎_elim}
use Prim.Native.Nat.{ℕ, ◌*◌, ◌≤◌, ◌<◌}
use native.Mathlib.Nat.{mul-le-mul}
use native.Mathlib.Omega.{arith}
use Rattle.facts.proofs.Numbers.{before-or-from}
use Rattle.terms.specs.declared.BinOp.TheVariants.{Add, Sub, Mul, And, Or, Xor, Shl, LShr, AShr}
use Rattle.terms.specs.declared.CmpOp.TheVariants.{Eq, Ult, Slt}
use Rattle.pool.specs.Node.{Kind, bad, var, const, bv, compare, ite, extract, concat, zext, sext, kinds, kind_at, kind_number, width_at}
use Rattle.pool_fields.specs.Fields.{op_a}
use Rattle.pool_rules.proofs.Numbers.{within}
use Rattle.text_parts.specs.Text as nodes
use Rattle.text_parts.proofs.Operands.{to-nineteen}
use Rattle.gates_pool.specs.Gates.{gates_for, work_width, gates_at}
use Rattle.gates_pool.proofs.Rules.{most, compare-facts}
use Rattle.gates_pool.proofs.Operators.{gates-at}
use Rattle.gates_pool.proofs.Comparisons.{gates-flat, gates-chosen}

-- the square of a width
pub square : (w : ℕ) → w ≤ 129 → 10 * w * w ≤ 166410
square w l = mul-le-mul {n₁ = 10 * w} {m₁ = w} {n₂ = 1290} {m₂ = 129} (omega arith) l

few : (κ : Kind) (w : ℕ) → w ≤ 129 → gates_for κ w ≤ 166410
few bad w l = omega arith
few var w l = omega arith
few const w l = omega arith
few (bv Add) w l = omega arith
few (bv Sub) w l = omega arith
few (bv Mul) w l = square w l
few (bv And) w l = omega arith
few (bv Or) w l = omega arith
few (bv Xor) w l = omega arith
few (bv Shl) w l = omega arith
few (bv LShr) w l = omega arith
few (bv AShr) w l = omega arith
few (compare Eq) w l = omega arith
few (compare Ult) w l = omega arith
few (compare Slt) w l = omega arith
few ite w l = omega arith
few extract w l = omega arith
few concat w l = omega arith
few zext w l = omega arith
few sext w l = omega arith

module _ (ws : List ℕ) (n : ℕ) where
  abbrev None : Kind → Type 0
  None κ = 0 ≡ gates_for κ (work_width κ (width_at ws n) (width_at ws (op_a ws n)))

  pub none_below : kind_number ws n < 3 → 0 ≡ gates_at ws n
  unfolding gates_at kinds
  none_below l = within None 0 3 (refl, (refl, (refl, tt))) (kind_number ws n) (omega arith) l

  pub none_above : 16 ≤ kind_number ws n → kind_number ws n < 20 → 0 ≡ gates_at ws n
  unfolding gates_at kinds
  none_above l h = within None 16 4 (refl, (refl, (refl, (refl, tt)))) (kind_number ws n) l h

  module _ (r : nodes.Ready ws n) where
    wide-few : 15 ≤ kind_number ws n → gates_at ws n ≤ 166410
    wide-few l =
        ⊎_elim (λ h. let e : kind_number ws n ≡ 15 = omega (arith, l, h) in omega (arith, gates-chosen ws n r e, most ws n r n (omega arith)))
        (λ h. omega (arith, none_above h (to-nineteen ws n r (kind_number ws n) refl)))
        (before-or-from (kind_number ws n) 16)

    compare-few : 12 ≤ kind_number ws n → gates_at ws n ≤ 166410
    compare-few l =
        ⊎_elim
        (λ h.
        let x = compare-facts ws n r l h in
        rw (gates-flat ws n r l h) (few (kind_at (kind_number ws n)) (width_at ws (op_a ws n)) (most ws n r (op_a ws n) (omega (arith, x.a)))))
        wide-few (before-or-from (kind_number ws n) 15)

    circuit-few : 3 ≤ kind_number ws n → gates_at ws n ≤ 166410
    circuit-few l =
        ⊎_elim (λ h. rw (gates-at ws n r l h) (few (kind_at (kind_number ws n)) (width_at ws n) (most ws n r n (omega arith)))) compare-few
        (before-or-from (kind_number ws n) 12)

    pub gates-few : gates_at ws n ≤ 166410
    gates-few = ⊎_elim (λ l. omega (arith, none_below l)) circuit-few (before-or-from (kind_number ws n) 3)
