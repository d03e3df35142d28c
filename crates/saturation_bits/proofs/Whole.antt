-- The bits over whole registers are those over the registers as a record reads them. Assumes nothing.
use Prim.Native.Nat.{ℕ, zero, suc, ◌+◌, ◌-◌, ◌*◌, ◌≤◌, ◌<◌}
use mathlib.Core.Path.{◌≡◌, refl, ap, ap₂, ◌∙◌}
use mathlib.Core.Bool.{Bool, true, false, cond}
use native.Mathlib.Omega.{arith}
use Rattle.terms.specs.Expr.{Expr, Const, Compare, Ite, Concat}
use Rattle.terms.specs.declared.CmpOp.TheVariants.{Eq}
use Rattle.neon.specs.Op.{Op, Arrangement, bits_of_lane, full, bits_if}
use Rattle.neon.specs.Form.{form, first_full, second_full, by_element, source_bits, most, lane_count, first_lane, second_lane}
use Rattle.neon.proofs.Geometry.{sized, source-some, filled, inside, made-view, first_in, second_in}
use Rattle.trees.specs.Simd.{extract_collapsing, concat_lanes}
use Rattle.trees.specs.Neon.{neon_op, shape_of}
use Rattle.trees.specs.Trees.{extract_lane, read_tree}
use Rattle.trees.specs.Simd as Simd
use Rattle.trees.proofs.Cuts.{cut-cut}
use Rattle.saturation.specs.Bits.{yes, lane_bit, saturable, bit_at, instruction_bit, saturation_tree}
use Rattle.saturation_bits.specs.Lanes.{family_bit, lane_at}

-- a lane of a low half is one of the register
read-lane : (f : Bool) (t : Expr) (m x : ℕ) → 1 ≤ m → m * x + m ≤ bits_if f → extract_lane (read_tree f t) m x ≡ extract_lane t m x
unfolding Simd.extract_lane
read-lane true t m x l h = refl
read-lane false t m x l h =
    cut-cut t 63 0 (m * x + m - 1) (m * x) (omega arith)
    ∙ ap (λ (hi : ℕ). extract_collapsing t hi (m * x + 0)) {x = m * x + m - 1 + 0} {y = m * x + m - 1} (omega arith)
    ∙ ap (λ (lo : ℕ). extract_collapsing t (m * x + m - 1) lo) {x = m * x + 0} {y = m * x} (omega arith)

-- the lanes that a family reads are those of its form
family : (o : Op) (n k i : ℕ) (u : Bool) (d a b : Expr) (j : ℕ)
    → lane_bit (neon_op o i u) n (extract_lane d n j) (extract_lane a (source_bits (form o).lanes n) (first_lane (form o).lanes k j))
    (extract_lane b (source_bits (form o).lanes n) (second_lane (form o).lanes (by_element o) k i j))
    ≡ family_bit (neon_op o i u) n k i d a b j
family Op.SHL n k i u d a b j = refl
family Op.SQSHLI n k i u d a b j = refl
family Op.UQSHLI n k i u d a b j = refl
family Op.SQSHLU n k i u d a b j = refl
family Op.SSHR n k i u d a b j = refl
family Op.USHR n k i u d a b j = refl
family Op.SRSHR n k i u d a b j = refl
family Op.URSHR n k i u d a b j = refl
family Op.SSHL n k i u d a b j = refl
family Op.USHL n k i u d a b j = refl
family Op.SRSHL n k i u d a b j = refl
family Op.URSHL n k i u d a b j = refl
family Op.SQSHL n k i u d a b j = refl
family Op.UQSHL n k i u d a b j = refl
family Op.SQRSHL n k i u d a b j = refl
family Op.UQRSHL n k i u d a b j = refl
family Op.SLI n k i u d a b j = refl
family Op.SRI n k i u d a b j = refl
family Op.SQADD n k i u d a b j = refl
family Op.UQADD n k i u d a b j = refl
family Op.SQSUB n k i u d a b j = refl
family Op.UQSUB n k i u d a b j = refl
family Op.SHADD n k i u d a b j = refl
family Op.UHADD n k i u d a b j = refl
family Op.SRHADD n k i u d a b j = refl
family Op.URHADD n k i u d a b j = refl
family Op.SQXTN n k i u d a b j = refl
family Op.UQXTN n k i u d a b j = refl
family Op.SQXTUN n k i u d a b j = refl
family Op.SHRN n k i u d a b j = refl
family Op.RSHRN n k i u d a b j = refl
family Op.SQSHRN n k i u d a b j = refl
family Op.SQRSHRN n k i u d a b j = refl
family Op.UQSHRN n k i u d a b j = refl
family Op.UQRSHRN n k i u d a b j = refl
family Op.SQSHRUN n k i u d a b j = refl
family Op.SQRSHRUN n k i u d a b j = refl
family Op.SQABS n k i u d a b j = refl
family Op.SQNEG n k i u d a b j = refl
family Op.SQDMULH n k i u d a b j = refl
family Op.SQRDMULH n k i u d a b j = refl
family Op.SQDMULL n k i u d a b j = refl
family Op.SQDMLAL n k i u d a b j = refl
family Op.SQDMLSL n k i u d a b j = refl
family Op.SQDMULL2 n k i u d a b j = refl
family Op.SQDMLAL2 n k i u d a b j = refl
family Op.SQDMLSL2 n k i u d a b j = refl
family Op.SQDMULLE n k i u d a b j = refl
family Op.SQDMLALE n k i u d a b j = refl
family Op.SQDMLSLE n k i u d a b j = refl
family Op.SQDMULL2E n k i u d a b j = refl
family Op.SQDMLAL2E n k i u d a b j = refl
family Op.SQDMLSL2E n k i u d a b j = refl
family Op.SUQADD n k i u d a b j = refl
family Op.USQADD n k i u d a b j = refl
family Op.SABD n k i u d a b j = refl
family Op.UABD n k i u d a b j = refl
family Op.SABA n k i u d a b j = refl
family Op.UABA n k i u d a b j = refl
family Op.CNT n k i u d a b j = refl
family Op.CLZ n k i u d a b j = refl
family Op.CLS n k i u d a b j = refl
family Op.RBIT n k i u d a b j = refl
family Op.ADDHN n k i u d a b j = refl
family Op.RADDHN n k i u d a b j = refl
family Op.SUBHN n k i u d a b j = refl
family Op.RSUBHN n k i u d a b j = refl

module _ (o : Op) (v : Arrangement) (i : ℕ) (h : i ≤ most o (bits_of_lane v)) (d a b : Expr) where
  lanes-same : (j : ℕ) → j < lane_count o v
      → bit_at o v i (read_tree (full v) d) (read_tree (first_full (form o).lanes (full v)) a) (read_tree (second_full (form o).lanes (by_element o) (full v)) b) j
      ≡ lane_at (shape_of o v i) d a b j
  unfolding bit_at
  lanes-same j l =
      let n = bits_of_lane v in
      let g = (form o).lanes in
      let some : 1 ≤ source_bits g n = source-some g n (sized v).eight in
      rw (
        read-lane (full v) d n j (omega (arith, (sized v).eight)) (omega (arith, inside v j g l, made-view g (full v))),
        read-lane (first_full g (full v)) a (source_bits g n) (first_lane g (lane_count o v) j) some (first_in v j g l),
        read-lane (second_full g (by_element o) (full v)) b (source_bits g n) (second_lane g (by_element o) (lane_count o v) i j) some (second_in v j g (form o).immediate i h l),
      )
      (family o n (lane_count o v) i (full v) d a b j)

  concat-same : (m : ℕ) (f g : ℕ → Expr) → ((j : ℕ) → j ≤ m → f j ≡ g j) → concat_lanes m f ≡ concat_lanes m g
  unfolding concat_lanes
  concat-same zero f g e = e 0 (omega arith)
  concat-same (suc m) f g e = ap₂ Concat (e (suc m) (omega arith)) (concat-same m f g (λ j l. e j (omega arith)))

  pub whole : (t : Expr)
      → saturation_tree o v i (read_tree (full v) d) (read_tree (first_full (form o).lanes (full v)) a) (read_tree (second_full (form o).lanes (by_element o) (full v)) b) t
      ≡ cond (saturable (neon_op o i (full v))) (instruction_bit (lane_count o v) (lane_at (shape_of o v i) d a b) t) t
  unfolding saturation_tree instruction_bit
  whole t =
      ap (λ (x : Expr). cond (saturable (neon_op o i (full v))) (Ite (Compare Eq x (Const 0 (lane_count o v))) t yes) t)
      (concat-same (lane_count o v - 1) _ _ (λ j l. lanes-same j (omega (arith, (filled (form o).lanes v).some))))
