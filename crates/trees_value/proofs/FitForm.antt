-- The terms of whole results and of blocks keep the pool's rules, and have the right widths, if their sources do. Assumes nothing.
use mathlib.Core.Path.{◌≡◌, refl}
use mathlib.Core.Bool.{Bool, true, false, cond}
use mathlib.Core.List.{List, [], ◌∷◌}
use Prim.Native.Nat.{ℕ, suc, ◌+◌, ◌-◌, ◌*◌, ◌≤◌, ◌<◌}
use native.Mathlib.Omega.{arith}
use native.Mathlib.Nat.{le_trans}
use lib.Dec.{eqb}
use Rattle.terms.specs.declared.BinOp.TheVariants.{Add, Sub, Shl}
use Rattle.terms.specs.Expr.{Expr, Var, width}
use Rattle.terms.specs.Rules.{Good}
use Rattle.neon.specs.declared.Instruction.{Instruction}
use Rattle.neon.specs.Op.{Op, op_at, Arrangement, arrangement_at, bits_of_lane, full, bits_if, view}
use Rattle.neon.specs.Form.{Lanes, Same, Narrow, Long, form, least, most, by_element, source_bits, made_bits, lane_count, first_lane, second_lane, first_full, second_full, first_bits, second_bits}
use Rattle.neon.specs.Refusal.{Legal, AllLegal}
use Rattle.neon.proofs.Geometry.{sized, source-some, filled, made-max, made-view, inside, first_in, second_in}
use Rattle.neon.proofs.Legal.{accepted, m-le}
use Rattle.trees.specs.declared.SaturateTo.TheVariants.{Signed, Unsigned, SignedToUnsigned}
use Rattle.std.specs.declared.option.Option.TheVariants.{None, Some}
use Rattle.trees.specs.Simd.{concat_lanes}
use Rattle.trees.specs.Neon.{neon_op}
use Rattle.trees.specs.Block.{widen_tree}
use Rattle.trees.specs.Trees.{result_tree, read_tree, record_tree, tree_step, tree_run}
use Rattle.trees.specs.Arith as Arith
use Rattle.trees.specs.Block as Block
use Rattle.trees_value.proofs.Fit.{Fit, fit-as, fit-bv, fit_cut, fit-concat, fit-zext, fit-concat-lanes, fit-lane-of}
use Rattle.trees_value.proofs.FitLane.{fit-imm, fit-saturating, fit-sqshlu, fit-right, fit-register, fit-insert, fit-sat, fit-halving, fit-narrow, fit-shift-narrow, fit-unary, fit-dmulh}
use Rattle.trees_value.proofs.FitLane.{fit-mixed, fit-abd, fit_count, fit-leading, fit-signs, fit_reverse, fit-high, fit-product, fit-combined}
use Rattle.trees_value.proofs.Lane.{lane_tree}
use Rattle.trees_value.proofs.Whole.{tree_at, place_tree, as-lanes}

pub fit_lane : (o : Op) (n i : ℕ) (d a b : Expr) → 8 ≤ n → n ≤ 64 → least o ≤ i → i ≤ most o n → Fit d n → Fit a (source_bits (form o).lanes n) → Fit b (source_bits (form o).lanes n)
    → (upper : Bool) → Fit (lane_tree (neon_op o i upper) n d a b) n
unfolding Arith.shift_lane Arith.bitwise_unary_lane Arith.doubling_long_lane
fit_lane Op.SHL n i d a b h8 h64 l h o p q u = fit-bv Shl p (fit-imm n h8 h64 i (omega arith))
fit_lane Op.SQSHLI n i d a b h8 h64 l h o p q u = fit-saturating n h8 h64 true p (fit-imm n h8 h64 i (omega arith))
fit_lane Op.UQSHLI n i d a b h8 h64 l h o p q u = fit-saturating n h8 h64 false p (fit-imm n h8 h64 i (omega arith))
fit_lane Op.SQSHLU n i d a b h8 h64 l h o p q u = fit-sqshlu n h8 h64 i (omega arith) p
fit_lane Op.SSHR n i d a b h8 h64 l h o p q u = fit-right n h8 h64 true false i (omega arith) p (fit-imm n h8 h64 i h)
fit_lane Op.USHR n i d a b h8 h64 l h o p q u = fit-right n h8 h64 false false i (omega arith) p (fit-imm n h8 h64 i h)
fit_lane Op.SRSHR n i d a b h8 h64 l h o p q u = fit-right n h8 h64 true true i (omega arith) p (fit-imm n h8 h64 i h)
fit_lane Op.URSHR n i d a b h8 h64 l h o p q u = fit-right n h8 h64 false true i (omega arith) p (fit-imm n h8 h64 i h)
fit_lane Op.SSHL n i d a b h8 h64 l h o p q u = fit-register n h8 h64 false false true p q
fit_lane Op.USHL n i d a b h8 h64 l h o p q u = fit-register n h8 h64 false false false p q
fit_lane Op.SRSHL n i d a b h8 h64 l h o p q u = fit-register n h8 h64 true false true p q
fit_lane Op.URSHL n i d a b h8 h64 l h o p q u = fit-register n h8 h64 true false false p q
fit_lane Op.SQSHL n i d a b h8 h64 l h o p q u = fit-register n h8 h64 false true true p q
fit_lane Op.UQSHL n i d a b h8 h64 l h o p q u = fit-register n h8 h64 false true false p q
fit_lane Op.SQRSHL n i d a b h8 h64 l h o p q u = fit-register n h8 h64 true true true p q
fit_lane Op.UQRSHL n i d a b h8 h64 l h o p q u = fit-register n h8 h64 true true false p q
fit_lane Op.SLI n i d a b h8 h64 l h o p q u = fit-insert n h8 h64 true i (omega arith) o p
fit_lane Op.SRI n i d a b h8 h64 l h o p q u = fit-insert n h8 h64 false i h o p
fit_lane Op.SQADD n i d a b h8 h64 l h o p q u = fit-sat n h8 h64 Add Signed true p q
fit_lane Op.UQADD n i d a b h8 h64 l h o p q u = fit-sat n h8 h64 Add Unsigned false p q
fit_lane Op.SQSUB n i d a b h8 h64 l h o p q u = fit-sat n h8 h64 Sub Signed true p q
fit_lane Op.UQSUB n i d a b h8 h64 l h o p q u = fit-sat n h8 h64 Sub SignedToUnsigned false p q
fit_lane Op.SHADD n i d a b h8 h64 l h o p q u = fit-halving n h8 h64 false true p q
fit_lane Op.UHADD n i d a b h8 h64 l h o p q u = fit-halving n h8 h64 false false p q
fit_lane Op.SRHADD n i d a b h8 h64 l h o p q u = fit-halving n h8 h64 true true p q
fit_lane Op.URHADD n i d a b h8 h64 l h o p q u = fit-halving n h8 h64 true false p q
fit_lane Op.SQXTN n i d a b h8 h64 l h o p q u = fit-narrow n h8 h64 Signed true b p
fit_lane Op.UQXTN n i d a b h8 h64 l h o p q u = fit-narrow n h8 h64 Unsigned false b p
fit_lane Op.SQXTUN n i d a b h8 h64 l h o p q u = fit-narrow n h8 h64 SignedToUnsigned true b p
fit_lane Op.SHRN n i d a b h8 h64 l h o p q u = fit-shift-narrow n h8 h64 i false None false b h p
fit_lane Op.RSHRN n i d a b h8 h64 l h o p q u = fit-shift-narrow n h8 h64 i true None false b h p
fit_lane Op.SQSHRN n i d a b h8 h64 l h o p q u = fit-shift-narrow n h8 h64 i false (Some Signed) true b h p
fit_lane Op.SQRSHRN n i d a b h8 h64 l h o p q u = fit-shift-narrow n h8 h64 i true (Some Signed) true b h p
fit_lane Op.UQSHRN n i d a b h8 h64 l h o p q u = fit-shift-narrow n h8 h64 i false (Some Unsigned) false b h p
fit_lane Op.UQRSHRN n i d a b h8 h64 l h o p q u = fit-shift-narrow n h8 h64 i true (Some Unsigned) false b h p
fit_lane Op.SQSHRUN n i d a b h8 h64 l h o p q u = fit-shift-narrow n h8 h64 i false (Some SignedToUnsigned) true b h p
fit_lane Op.SQRSHRUN n i d a b h8 h64 l h o p q u = fit-shift-narrow n h8 h64 i true (Some SignedToUnsigned) true b h p
fit_lane Op.SQABS n i d a b h8 h64 l h o p q u = fit-unary n h8 h64 false true b p
fit_lane Op.SQNEG n i d a b h8 h64 l h o p q u = fit-unary n h8 h64 true true b p
fit_lane Op.SQDMULH n i d a b h8 h64 l h o p q u = fit-dmulh n h8 h64 false true p q
fit_lane Op.SQRDMULH n i d a b h8 h64 l h o p q u = fit-dmulh n h8 h64 true true p q
fit_lane Op.SQDMULL n i d a b h8 h64 l h o p q u = fit-product n h8 h64 p q
fit_lane Op.SQDMLAL n i d a b h8 h64 l h o p q u = fit-combined n h8 h64 Add o p q
fit_lane Op.SQDMLSL n i d a b h8 h64 l h o p q u = fit-combined n h8 h64 Sub o p q
fit_lane Op.SQDMULL2 n i d a b h8 h64 l h o p q u = fit-product n h8 h64 p q
fit_lane Op.SQDMLAL2 n i d a b h8 h64 l h o p q u = fit-combined n h8 h64 Add o p q
fit_lane Op.SQDMLSL2 n i d a b h8 h64 l h o p q u = fit-combined n h8 h64 Sub o p q
fit_lane Op.SQDMULLE n i d a b h8 h64 l h o p q u = fit-product n h8 h64 p q
fit_lane Op.SQDMLALE n i d a b h8 h64 l h o p q u = fit-combined n h8 h64 Add o p q
fit_lane Op.SQDMLSLE n i d a b h8 h64 l h o p q u = fit-combined n h8 h64 Sub o p q
fit_lane Op.SQDMULL2E n i d a b h8 h64 l h o p q u = fit-product n h8 h64 p q
fit_lane Op.SQDMLAL2E n i d a b h8 h64 l h o p q u = fit-combined n h8 h64 Add o p q
fit_lane Op.SQDMLSL2E n i d a b h8 h64 l h o p q u = fit-combined n h8 h64 Sub o p q
fit_lane Op.SUQADD n i d a b h8 h64 l h o p q u = fit-mixed n h8 h64 true o p
fit_lane Op.USQADD n i d a b h8 h64 l h o p q u = fit-mixed n h8 h64 false o p
fit_lane Op.SABD n i d a b h8 h64 l h o p q u = fit-abd n h8 h64 true p q
fit_lane Op.UABD n i d a b h8 h64 l h o p q u = fit-abd n h8 h64 false p q
fit_lane Op.SABA n i d a b h8 h64 l h o p q u = fit-bv Add o (fit-abd n h8 h64 true p q)
fit_lane Op.UABA n i d a b h8 h64 l h o p q u = fit-bv Add o (fit-abd n h8 h64 false p q)
fit_lane Op.CNT n i d a b h8 h64 l h o p q u = fit_count n h8 h64 n (omega arith) p
fit_lane Op.CLZ n i d a b h8 h64 l h o p q u = fit-leading n h8 h64 n h64 (omega arith) p
fit_lane Op.CLS n i d a b h8 h64 l h o p q u = fit-signs n h8 h64 p
fit_lane Op.RBIT n i d a b h8 h64 l h o p q u = fit_reverse n (omega arith) (omega arith) p
fit_lane Op.ADDHN n i d a b h8 h64 l h o p q u = fit-high n h8 h64 false false p q
fit_lane Op.RADDHN n i d a b h8 h64 l h o p q u = fit-high n h8 h64 false true p q
fit_lane Op.SUBHN n i d a b h8 h64 l h o p q u = fit-high n h8 h64 true false p q
fit_lane Op.RSUBHN n i d a b h8 h64 l h o p q u = fit-high n h8 h64 true true p q

module _ (o : Op) (v : Arrangement) (i : ℕ) (d a b : Expr) (l : least o ≤ i) (h : i ≤ most o (bits_of_lane v))
    (fd : Fit d (view v)) (fa : Fit a (first_bits o v)) (fb : Fit b (second_bits o v)) where
  some-n : 0 < bits_of_lane v
  some-n = omega (arith, (sized v).eight)

  some-m : 0 < source_bits (form o).lanes (bits_of_lane v)
  some-m = source-some (form o).lanes (bits_of_lane v) (sized v).eight

  fit-part : (j : ℕ) → j ≤ lane_count o v - 1 → Fit (tree_at o v i d a b j) (bits_of_lane v)
  fit-part j k =
      let g : j < lane_count o v = omega (arith, (filled (form o).lanes v).some) in
      let in-d : bits_of_lane v * j + bits_of_lane v ≤ view v = le_trans (inside v j (form o).lanes g) (made-view (form o).lanes (full v)) in
      fit_lane o (bits_of_lane v) i _ _ _ (sized v).eight (sized v).most l h (fit-lane-of d (view v) (bits_of_lane v) j some-n in-d fd)
      (fit-lane-of a _ (source_bits (form o).lanes (bits_of_lane v)) (first_lane (form o).lanes (lane_count o v) j) some-m (first_in v j (form o).lanes g) fa)
      (fit-lane-of b _ (source_bits (form o).lanes (bits_of_lane v)) (second_lane (form o).lanes (by_element o) (lane_count o v) i j) some-m
      (second_in v j (form o).lanes (form o).immediate i h g) fb) (full v)

  fit-lanes : Fit (concat_lanes (lane_count o v - 1) (tree_at o v i d a b)) (made_bits (form o).lanes (full v))
  fit-lanes =
      let e : bits_of_lane v * suc (lane_count o v - 1) ≡ made_bits (form o).lanes (full v) = rw (filled (form o).lanes v).some (filled (form o).lanes v).fill in
      fit-as e (fit-concat-lanes (bits_of_lane v) (lane_count o v - 1) _ (omega (arith, e, made-max (form o).lanes (full v))) fit-part)

  placed : (f : Lanes) (t : Bool) (new : Expr) → Fit d (bits_if t) → Fit new (made_bits f t) → Fit (place_tree f t new d) (bits_if t)
  placed Same t new g p = p
  placed (Long u) t new g p = p
  placed Narrow false new g p = p
  placed Narrow true new g p = fit-concat {m = 64} {n = 64} (omega arith) p (fit_cut 64 (omega arith) (omega arith) g)

  -- the term of a result keeps the rules, and has the view's bits
  pub fit-result : Fit (result_tree o v i d a b) (view v)
  fit-result = rw (as-lanes o v i d a b) (placed (form o).lanes (full v) (concat_lanes (lane_count o v - 1) (tree_at o v i d a b)) fd fit-lanes)

-- ---- a block
pub fit-read : (t : Bool) {e : Expr} → Fit e 128 → Fit (read_tree t e) (bits_if t)
fit-read true p = p
fit-read false p = fit_cut 64 (omega arith) (omega arith) p

fit-widen : (t : Bool) {e : Expr} → Fit e (bits_if t) → Fit (widen_tree t e) 128
fit-widen true p = p
fit-widen false p = fit-zext 128 (omega arith) (omega arith) p

-- the terms of the 32 registers keep the rules
abbrev pub AllFit : (ℕ → Expr) → Type 0
AllFit t = (x : ℕ) → x < 32 → Fit (t x) 128

pub fit-step : (c : Instruction) → Legal c → (t : ℕ → Expr) → AllFit t → AllFit (tree_step c t)
unfolding Block.tree_step
fit-step c k t f x h = go (eqb x c.d)
  where
    new : Fit (record_tree c t) 128
    new =
        unfold Block.record_tree in
        let o = op_at c.operation in
        let v = arrangement_at c.arrangement in
        let g = accepted c k in
        fit-widen (full v)
        (fit-result o v c.i _ _ _ g.form_of.low g.form_of.high (fit-read (full v) (f c.d (omega (arith, g.at-d))))
        (fit-read (first_full (form o).lanes (full v)) (f c.n (omega (arith, g.at_n))))
        (fit-read (second_full (form o).lanes (by_element o) (full v)) (f c.m (omega (arith, g.at-m, m-le o v)))))

    go : (b : Bool) → Fit (cond b (record_tree c t) (t x)) 128
    go true = new
    go false = f x h

pub fit-run : (cs : List Instruction) → AllLegal cs → (t : ℕ → Expr) → AllFit t → AllFit (tree_run cs t)
unfolding Block.tree_run
fit-run [] k t f = f
fit-run (c ∷ cs) k t f = fit-run cs k.1 (tree_step c t) (fit-step c k.0 t f)

pub fit-block : (cs : List Instruction) → AllLegal cs → AllFit (tree_run cs Var)
fit-block cs k = fit-run cs k Var (λ x h. unfold Good width in record { wide = refl; some = omega arith; ok = h })
