-- The value of a block's one-bit term is 1 exactly when some lane of some instruction saturates. Assumes nothing.
use mathlib.Core.Path.{◌≡◌, refl, sym, ap, ◌∙◌, fun_ext}
use mathlib.Core.Bool.{Bool, true, false, cond, ◌||◌, false≢true}
use mathlib.Core.List.{List, [], ◌∷◌}
use Prim.Native.Nat.{ℕ, zero, suc, ◌≤◌, ◌<◌}
use native.Mathlib.Omega.{arith}
use Rattle.facts.proofs.Tests.{or_assoc}
use Rattle.terms.specs.Expr.{Expr, Var, width}
use Rattle.terms.specs.Value.{value, bit}
use Rattle.neon.specs.declared.Instruction.{Instruction}
use Rattle.neon.specs.Op.{Op, Arrangement, op_at, arrangement_at, bits_of_lane, full}
use Rattle.neon.specs.Form.{form, first_full, second_full, by_element, least, most, lane_count, first_lane, second_lane}
use Rattle.neon.specs.Run.{arm_step}
use Rattle.neon.specs.Refusal.{Legal, AllLegal}
use Rattle.neon.proofs.Legal.{accepted}
use Rattle.neon.proofs.Geometry.{sized, source-some, filled}
use Rattle.trees.specs.Neon.{neon_op}
use Rattle.trees.specs.Trees.{tree_step}
use Rattle.trees_value.proofs.Is.{Has}
use Rattle.trees_value.proofs.Lanes.{lane-lt}
use Rattle.trees_value.proofs.Lane.{sources}
use Rattle.trees_value.proofs.Whole.{has-lane}
use Rattle.trees_value.proofs.Block.{read_is, step_is}
use Rattle.saturation.specs.Saturates.{some, saturates_lane, saturates_at, saturates, saturates_step, saturates_run}
use Rattle.saturation.specs.Bits.{no, saturable, bit_at, instruction_bit, saturation_tree, record_bit, bit_run, block_bit}
use Rattle.saturation.proofs.Some.{instruction-is}
use Rattle.saturation.proofs.Families.{bit-has, bit_is}

-- a family that cannot saturate does not, whatever the immediate
pub unsaturable : (o : Op) (i i' : ℕ) (u : Bool) → saturable (neon_op o i' u) ≡ false → (n d a b : ℕ) → saturates_lane o n i d a b ≡ false
unfolding saturates_lane
unsaturable Op.SQSHLI i i' u e n d a b = absurd (false≢true (sym e))
unsaturable Op.UQSHLI i i' u e n d a b = absurd (false≢true (sym e))
unsaturable Op.SQSHLU i i' u e n d a b = absurd (false≢true (sym e))
unsaturable Op.SQSHL i i' u e n d a b = absurd (false≢true (sym e))
unsaturable Op.UQSHL i i' u e n d a b = absurd (false≢true (sym e))
unsaturable Op.SQRSHL i i' u e n d a b = absurd (false≢true (sym e))
unsaturable Op.UQRSHL i i' u e n d a b = absurd (false≢true (sym e))
unsaturable Op.SQADD i i' u e n d a b = absurd (false≢true (sym e))
unsaturable Op.UQADD i i' u e n d a b = absurd (false≢true (sym e))
unsaturable Op.SQSUB i i' u e n d a b = absurd (false≢true (sym e))
unsaturable Op.UQSUB i i' u e n d a b = absurd (false≢true (sym e))
unsaturable Op.SQXTN i i' u e n d a b = absurd (false≢true (sym e))
unsaturable Op.UQXTN i i' u e n d a b = absurd (false≢true (sym e))
unsaturable Op.SQXTUN i i' u e n d a b = absurd (false≢true (sym e))
unsaturable Op.SQSHRN i i' u e n d a b = absurd (false≢true (sym e))
unsaturable Op.SQRSHRN i i' u e n d a b = absurd (false≢true (sym e))
unsaturable Op.UQSHRN i i' u e n d a b = absurd (false≢true (sym e))
unsaturable Op.UQRSHRN i i' u e n d a b = absurd (false≢true (sym e))
unsaturable Op.SQSHRUN i i' u e n d a b = absurd (false≢true (sym e))
unsaturable Op.SQRSHRUN i i' u e n d a b = absurd (false≢true (sym e))
unsaturable Op.SQABS i i' u e n d a b = absurd (false≢true (sym e))
unsaturable Op.SQNEG i i' u e n d a b = absurd (false≢true (sym e))
unsaturable Op.SQDMULH i i' u e n d a b = absurd (false≢true (sym e))
unsaturable Op.SQRDMULH i i' u e n d a b = absurd (false≢true (sym e))
unsaturable Op.SQDMULL i i' u e n d a b = absurd (false≢true (sym e))
unsaturable Op.SQDMLAL i i' u e n d a b = absurd (false≢true (sym e))
unsaturable Op.SQDMLSL i i' u e n d a b = absurd (false≢true (sym e))
unsaturable Op.SQDMULL2 i i' u e n d a b = absurd (false≢true (sym e))
unsaturable Op.SQDMLAL2 i i' u e n d a b = absurd (false≢true (sym e))
unsaturable Op.SQDMLSL2 i i' u e n d a b = absurd (false≢true (sym e))
unsaturable Op.SQDMULLE i i' u e n d a b = absurd (false≢true (sym e))
unsaturable Op.SQDMLALE i i' u e n d a b = absurd (false≢true (sym e))
unsaturable Op.SQDMLSLE i i' u e n d a b = absurd (false≢true (sym e))
unsaturable Op.SQDMULL2E i i' u e n d a b = absurd (false≢true (sym e))
unsaturable Op.SQDMLAL2E i i' u e n d a b = absurd (false≢true (sym e))
unsaturable Op.SQDMLSL2E i i' u e n d a b = absurd (false≢true (sym e))
unsaturable Op.SUQADD i i' u e n d a b = absurd (false≢true (sym e))
unsaturable Op.USQADD i i' u e n d a b = absurd (false≢true (sym e))
unsaturable Op.SHL i i' u e n d a b = refl
unsaturable Op.SSHR i i' u e n d a b = refl
unsaturable Op.USHR i i' u e n d a b = refl
unsaturable Op.SRSHR i i' u e n d a b = refl
unsaturable Op.URSHR i i' u e n d a b = refl
unsaturable Op.SSHL i i' u e n d a b = refl
unsaturable Op.USHL i i' u e n d a b = refl
unsaturable Op.SRSHL i i' u e n d a b = refl
unsaturable Op.URSHL i i' u e n d a b = refl
unsaturable Op.SLI i i' u e n d a b = refl
unsaturable Op.SRI i i' u e n d a b = refl
unsaturable Op.SHADD i i' u e n d a b = refl
unsaturable Op.UHADD i i' u e n d a b = refl
unsaturable Op.SRHADD i i' u e n d a b = refl
unsaturable Op.URHADD i i' u e n d a b = refl
unsaturable Op.SHRN i i' u e n d a b = refl
unsaturable Op.RSHRN i i' u e n d a b = refl
unsaturable Op.SABD i i' u e n d a b = refl
unsaturable Op.UABD i i' u e n d a b = refl
unsaturable Op.SABA i i' u e n d a b = refl
unsaturable Op.UABA i i' u e n d a b = refl
unsaturable Op.CNT i i' u e n d a b = refl
unsaturable Op.CLZ i i' u e n d a b = refl
unsaturable Op.CLS i i' u e n d a b = refl
unsaturable Op.RBIT i i' u e n d a b = refl
unsaturable Op.ADDHN i i' u e n d a b = refl
unsaturable Op.RADDHN i i' u e n d a b = refl
unsaturable Op.SUBHN i i' u e n d a b = refl
unsaturable Op.RSUBHN i i' u e n d a b = refl

pub none : (k : ℕ) (f : ℕ → Bool) → ((j : ℕ) → f j ≡ false) → some k f ≡ false
unfolding some
none zero f h = refl
none (suc k) f h = rw (none k f h, h k)

module _ (r : ℕ → ℕ) (o : Op) (v : Arrangement) (i : ℕ) (d a b : Expr) (l : least o ≤ i) (h : i ≤ most o (bits_of_lane v)) where
  part : (j : ℕ) → Has r (bit_at o v i d a b j) 1 (bit (saturates_at o v i (value r d) (value r a) (value r b) j))
  unfolding bit_at saturates_at
  part j =
      let hm = source-some (form o).lanes (bits_of_lane v) (sized v).eight in
      let hn : 0 < bits_of_lane v = omega (arith, (sized v).eight) in
      bit-has r (bit_is r (bits_of_lane v) i _ _ _ _ _ _ (sized v).eight (sized v).even (lane-lt (bits_of_lane v) j (value r d)) (has-lane r d (bits_of_lane v) j hn) o l h
      (sources r hm (lane-lt _ (first_lane (form o).lanes (lane_count o v) j) (value r a))
      (lane-lt _ (second_lane (form o).lanes (by_element o) (lane_count o v) i j) (value r b)) (has-lane r a _ (first_lane (form o).lanes (lane_count o v) j) hm)
      (has-lane r b _ (second_lane (form o).lanes (by_element o) (lane_count o v) i j) hm)) (full v))

  pub saturation-is : (before : Expr) (t : Bool) → Has r before 1 (bit t)
      → Has r (saturation_tree o v i d a b before) 1 (bit (t || saturates o v i (value r d) (value r a) (value r b)))
  unfolding saturation_tree saturates
  saturation-is before t p = go (saturable (neon_op o i (full v))) refl
    where
      idle : (t : Bool) → t ≡ (t || false)
      idle true = refl
      idle false = refl

      go : (s : Bool) → saturable (neon_op o i (full v)) ≡ s
          → Has r (cond s (instruction_bit (lane_count o v) (bit_at o v i d a b) before) before) 1 (bit (t || some (lane_count o v) (saturates_at o v i (value r d) (value r a) (value r b))))
      go true e = instruction-is r (lane_count o v) (omega (arith, (filled (form o).lanes v).some)) (bit_at o v i d a b) (saturates_at o v i (value r d) (value r a) (value r b)) part before t p
      go false e =
          record {
            wide = p.wide;
            val = p.val ∙ ap bit (idle t ∙ ap (λ (s : Bool). t || s) (sym
                (none (lane_count o v) (saturates_at o v i (value r d) (value r a) (value r b)) (λ j. unfold saturates_at in unsaturable o i i (full v) e _ _ _ _))));
          }

module _ (start : ℕ → ℕ) where
  record_is : (c : Instruction) → Legal c → (t : ℕ → Expr) (before : Expr) (s : Bool) → Has start before 1 (bit s)
      → Has start (record_bit c t before) 1 (bit (s || saturates_step c (λ y. value start (t y))))
  unfolding record_bit saturates_step
  record_is c k t before s p =
      let o = op_at c.operation in
      let v = arrangement_at c.arrangement in
      let f = (accepted c k).form_of in
      let lanes = (form o).lanes in
      rw (← read_is start (full v) (t c.d), ← read_is start (first_full lanes (full v)) (t c.n), ← read_is start (second_full lanes (by_element o) (full v)) (t c.m))
      (saturation-is start o v c.i _ _ _ f.low f.high before s p)

  run_is : (cs : List Instruction) → AllLegal cs → (t : ℕ → Expr) (before : Expr) (s : Bool) → Has start before 1 (bit s)
      → Has start (bit_run cs t before) 1 (bit (s || saturates_run cs (λ y. value start (t y))))
  unfolding bit_run saturates_run
  run_is [] l t before s p = record { wide = p.wide; val = p.val ∙ ap bit (idle s) }
    where
      idle : (t : Bool) → t ≡ (t || false)
      idle true = refl
      idle false = refl
  run_is (c ∷ cs) l t before s p =
      let q = run_is cs l.1 (tree_step c t) (record_bit c t before) (s || saturates_step c (λ y. value start (t y))) (record_is c l.0 t before s p) in
      record {
        wide = q.wide;
        val = q.val ∙ ap (λ (m : ℕ → ℕ). bit ((s || saturates_step c (λ y. value start (t y))) || saturates_run cs m)) (fun_ext (step_is start c l.0 t))
            ∙ ap bit (or_assoc s (saturates_step c (λ y. value start (t y))) (saturates_run cs (arm_step c (λ y. value start (t y)))));
      }

  -- for every accepted block
  pub block-bit-is : (cs : List Instruction) → AllLegal cs → Has start (block_bit cs) 1 (bit (saturates_run cs start))
  unfolding value
  block-bit-is cs l = run_is cs l Var no false (record { wide = unfold width in refl; val = refl })
