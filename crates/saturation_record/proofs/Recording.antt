-- The block's bit after a record, from what its calls build. Assumes nothing.
use Prim.Native.Nat.{ℕ, ◌≤◌, ◌<◌}
use mathlib.Core.Path.{◌≡◌, sym, ap, subst, ◌∙◌}
use mathlib.Core.Bool.{Bool, true, false}
use mathlib.Core.List.{List}
use native.Mathlib.Omega.{arith}
use Rattle.neon.specs.Op.{op_at, arrangement_at, bits_of_lane, full}
use Rattle.neon.specs.Form.{most}
use Rattle.pool.specs.declared.Node.{Node}
use Rattle.pool.specs.declared.Built.{Built}
use Rattle.pool.proofs.Steps.{stay}
use Rattle.trees.specs.declared.NeonShape.{NeonShape}
use Rattle.trees.specs.Neon.{neon_op, shape_of}
use Rattle.saturation.specs.Bits.{saturable}
use Rattle.saturation_bits.specs.Lanes.{BitMade}
use Rattle.saturation_bits.proofs.Whole.{whole}
use Rattle.saturation_record.specs.Record.{RecordBit}

module _ {w0 : List ℕ} {k : ℕ} {r : Built} {first second d before : Node} (operation arrangement i : ℕ) (h : i ≤ most (op_at operation) (bits_of_lane (arrangement_at arrangement))) where
  pub changes : {w1 : List ℕ} {s : NeonShape} {b : Bool} → s ≡ shape_of (op_at operation) (arrangement_at arrangement) i → b ≡ saturable s.op → b ≡ true
      → BitMade w0 k w1 r s first second d before
      → RecordBit w0 k w1 r operation arrangement i d first second before
  changes {w1} {s} {b} e f g m =
      let o = op_at operation in
      let v = arrangement_at arrangement in
      let sat : saturable (neon_op o i (full v)) ≡ true = ap (λ (s : NeonShape). saturable s.op) (sym e) ∙ sym f ∙ g in
      let n : BitMade w0 k w1 r (shape_of o v i) first second d before = subst (λ (s : NeonShape). BitMade w0 k w1 r s first second d before) e m in
      record {
        sized = n.sized;
        made = λ {td} {ta} {tb} {t} valid x y z u. rw (whole o v i h td ta tb t, sat) (n.made valid (λ c. x) (λ c. y) (λ c. z) u);
      }

  pub stays : {s : NeonShape} {b : Bool} → s ≡ shape_of (op_at operation) (arrangement_at arrangement) i → b ≡ saturable s.op → b ≡ false
      → before.0 < k
      → r.node.0 ≡ before.0
      → r.count ≡ k
      → RecordBit w0 k w0 r operation arrangement i d first second before
  stays {s} {b} e f g l p q =
      let o = op_at operation in
      let v = arrangement_at arrangement in
      let sat : saturable (neon_op o i (full v)) ≡ false = ap (λ (s : NeonShape). saturable s.op) (sym e) ∙ sym f ∙ g in
      record {
        sized = omega (arith, l, p, q);
        made = λ {td} {ta} {tb} {t} valid x y z u. rw (whole o v i h td ta tb t, sat, p, q) (stay valid u);
      }
