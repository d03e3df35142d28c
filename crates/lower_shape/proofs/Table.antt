-- The family of each operation in a legal form, with the amounts and lane widths of its row. Assumes nothing.
use mathlib.Core.Path.{◌≡◌}
use mathlib.Core.Bool.{Bool, true, false, cond, ◌&&◌}
use Prim.Native.Nat.{ℕ, ◌-◌, ◌/◌, ◌≤◌, ◌<◌}
use native.Mathlib.Omega.{arith}
use lib.Dec.{leb}
use borrow.Author.Tests.{leb-true}
use Rattle.facts.proofs.Tests.{and_both}
use Rattle.neon.specs.Op.{Op, Arrangement, bits_of_lane, full}
use Rattle.neon.specs.Form.{Immediate, Class, Reads, Form, Same, Narrow, Long, None, Left, Right, N, NM, DN, DNM, row, form, has_form, least, most, is_element}
use Rattle.neon.proofs.Geometry.{sized}
use Rattle.terms.specs.declared.BinOp.{BinOp}
use Rattle.trees.specs.declared.BitwiseUnary.{BitwiseUnary}
use Rattle.std.specs.declared.option.Option.{Option}
use Rattle.std.specs.declared.option.Option.TheVariants.{None, Some}
use Rattle.trees.specs.declared.NeonOp.{NeonOp}
use Rattle.trees.specs.declared.SaturateTo.{SaturateTo}
use Rattle.trees.specs.declared.SaturatingKind.{SaturatingKind}
use Rattle.trees.specs.declared.ShiftKind.{ShiftKind}
use Rattle.trees.specs.Neon.{neon_op}

-- d is read if the product is combined with it
abbrev pub long_reads : Option BinOp → Reads
long_reads None = NM
long_reads (Some op) = DNM

-- A family at lanes of an arrangement v and an immediate i, with the form of its operations. Of the form's class only the bound on the
-- lane's bits is kept, and that `long` needs a full view.
pub data Family (v : Arrangement) (i : ℕ) : NeonOp → Form → Type 0 where
  shift-left : {a : Option SaturateTo} {s : Bool} {c : Class} → i < bits_of_lane v → Family v i (NeonOp.Shift (ShiftKind.LeftImmediate i a) s) (row Same Left c N)
  shift-right : {r s : Bool} {c : Class} → 1 ≤ i → i ≤ bits_of_lane v → Family v i (NeonOp.Shift (ShiftKind.RightImmediate i r) s) (row Same Right c N)
  shift-register : {r a s : Bool} {c : Class} → Family v i (NeonOp.Shift (ShiftKind.Register r a) s) (row Same None c NM)
  insert-left : {c : Class} → i < bits_of_lane v → Family v i (NeonOp.ShiftInsert true i) (row Same Left c DN)
  insert-right : {c : Class} → 1 ≤ i → i ≤ bits_of_lane v → Family v i (NeonOp.ShiftInsert false i) (row Same Right c DN)
  add-sub : {b : BinOp} {t : SaturateTo} {s : Bool} {c : Class} → Family v i (NeonOp.Saturating (SaturatingKind.AddSub b t) s false) (row Same None c NM)
  halving : {r s : Bool} {c : Class} → Family v i (NeonOp.Saturating (SaturatingKind.Halving r) s false) (row Same None c NM)
  narrow : {t : SaturateTo} {s : Bool} {c : Class} → bits_of_lane v ≤ 32 → Family v i (NeonOp.Saturating (SaturatingKind.Narrow t) s (full v)) (row Narrow None c N)
  shift-narrow : {r : Bool} {a : Option SaturateTo} {s : Bool} {c : Class} → bits_of_lane v ≤ 32 → 1 ≤ i → i ≤ bits_of_lane v
      → Family v i (NeonOp.Saturating (SaturatingKind.ShiftNarrow i r a) s (full v)) (row Narrow Right c N)
  unary : {g : Bool} {c : Class} → Family v i (NeonOp.Saturating (SaturatingKind.Unary g) true false) (row Same None c N)
  multiply-high : {r : Bool} {c : Class} → bits_of_lane v ≤ 32 → Family v i (NeonOp.Saturating (SaturatingKind.DoublingMultiplyHigh r) true false) (row Same None c NM)
  long : (x : Option BinOp) {u : Bool} {e : Immediate} {c : Class} → full v ≡ true → i ≤ 256 / bits_of_lane v - 1
      → Family v i (NeonOp.DoublingLong x u (is_element e)) (row (Long u) e c (long_reads x))
  mixed-sign : {s : Bool} {c : Class} → Family v i (NeonOp.MixedSignAdd s) (row Same None c DN)
  difference : (accumulate : Bool) {s : Bool} {c : Class} → Family v i (NeonOp.AbsoluteDifference s accumulate) (row Same None c (cond accumulate DNM NM))
  bitwise : {k : BitwiseUnary} {c : Class} → Family v i (NeonOp.BitwiseUnary k) (row Same None c N)
  high-narrow : {d r : Bool} {c : Class} → bits_of_lane v ≤ 32 → Family v i (NeonOp.HighNarrow d r (full v)) (row Narrow None c NM)

all : (v : Arrangement) → (leb 32 (bits_of_lane v) && full v) ≡ true → full v ≡ true
all v h = (and_both (leb 32 (bits_of_lane v)) _ h).1

pub family : (o : Op) (v : Arrangement) (i : ℕ) → has_form o v ≡ true → least o ≤ i → i ≤ most o (bits_of_lane v) → Family v i (neon_op o i (full v)) (form o)
family Op.SHL v i h l m = shift-left (omega (arith, m, (sized v).eight))
family Op.SQSHLI v i h l m = shift-left (omega (arith, m, (sized v).eight))
family Op.UQSHLI v i h l m = shift-left (omega (arith, m, (sized v).eight))
family Op.SQSHLU v i h l m = shift-left (omega (arith, m, (sized v).eight))
family Op.SSHR v i h l m = shift-right l m
family Op.USHR v i h l m = shift-right l m
family Op.SRSHR v i h l m = shift-right l m
family Op.URSHR v i h l m = shift-right l m
family Op.SSHL v i h l m = shift-register
family Op.USHL v i h l m = shift-register
family Op.SRSHL v i h l m = shift-register
family Op.URSHL v i h l m = shift-register
family Op.SQSHL v i h l m = shift-register
family Op.UQSHL v i h l m = shift-register
family Op.SQRSHL v i h l m = shift-register
family Op.UQRSHL v i h l m = shift-register
family Op.SLI v i h l m = insert-left (omega (arith, m, (sized v).eight))
family Op.SRI v i h l m = insert-right l m
family Op.SQADD v i h l m = add-sub
family Op.UQADD v i h l m = add-sub
family Op.SQSUB v i h l m = add-sub
family Op.UQSUB v i h l m = add-sub
family Op.SHADD v i h l m = halving
family Op.UHADD v i h l m = halving
family Op.SRHADD v i h l m = halving
family Op.URHADD v i h l m = halving
family Op.SQXTN v i h l m = narrow (leb-true _ _ h)
family Op.UQXTN v i h l m = narrow (leb-true _ _ h)
family Op.SQXTUN v i h l m = narrow (leb-true _ _ h)
family Op.SHRN v i h l m = shift-narrow (leb-true _ _ h) l m
family Op.RSHRN v i h l m = shift-narrow (leb-true _ _ h) l m
family Op.SQSHRN v i h l m = shift-narrow (leb-true _ _ h) l m
family Op.SQRSHRN v i h l m = shift-narrow (leb-true _ _ h) l m
family Op.UQSHRN v i h l m = shift-narrow (leb-true _ _ h) l m
family Op.UQRSHRN v i h l m = shift-narrow (leb-true _ _ h) l m
family Op.SQSHRUN v i h l m = shift-narrow (leb-true _ _ h) l m
family Op.SQRSHRUN v i h l m = shift-narrow (leb-true _ _ h) l m
family Op.SQABS v i h l m = unary
family Op.SQNEG v i h l m = unary
family Op.SQDMULH v i h l m = multiply-high (leb-true _ _ (and_both (leb 16 (bits_of_lane v)) _ h).1)
family Op.SQRDMULH v i h l m = multiply-high (leb-true _ _ (and_both (leb 16 (bits_of_lane v)) _ h).1)
family Op.SQDMULL v i h l m = long _ (all v h) (omega (arith, m))
family Op.SQDMLAL v i h l m = long _ (all v h) (omega (arith, m))
family Op.SQDMLSL v i h l m = long _ (all v h) (omega (arith, m))
family Op.SQDMULL2 v i h l m = long _ (all v h) (omega (arith, m))
family Op.SQDMLAL2 v i h l m = long _ (all v h) (omega (arith, m))
family Op.SQDMLSL2 v i h l m = long _ (all v h) (omega (arith, m))
family Op.SQDMULLE v i h l m = long _ (all v h) m
family Op.SQDMLALE v i h l m = long _ (all v h) m
family Op.SQDMLSLE v i h l m = long _ (all v h) m
family Op.SQDMULL2E v i h l m = long _ (all v h) m
family Op.SQDMLAL2E v i h l m = long _ (all v h) m
family Op.SQDMLSL2E v i h l m = long _ (all v h) m
family Op.SUQADD v i h l m = mixed-sign
family Op.USQADD v i h l m = mixed-sign
family Op.SABD v i h l m = difference _
family Op.UABD v i h l m = difference _
family Op.SABA v i h l m = difference _
family Op.UABA v i h l m = difference _
family Op.CNT v i h l m = bitwise
family Op.CLZ v i h l m = bitwise
family Op.CLS v i h l m = bitwise
family Op.RBIT v i h l m = bitwise
family Op.ADDHN v i h l m = high-narrow (leb-true _ _ h)
family Op.RADDHN v i h l m = high-narrow (leb-true _ _ h)
family Op.SUBHN v i h l m = high-narrow (leb-true _ _ h)
family Op.RSUBHN v i h l m = high-narrow (leb-true _ _ h)
