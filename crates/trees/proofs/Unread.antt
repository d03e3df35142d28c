-- A tree does not depend on a source that its form does not read. Assumes nothing.
use mathlib.Core.Path.{◌≡◌, refl, sym}
use mathlib.Core.Bool.{Bool, true, false, false≢true}
use Prim.Native.Nat.{ℕ}
use Rattle.terms.specs.Expr.{Expr}
use Rattle.neon.specs.Op.{Op, Arrangement, full}
use Rattle.neon.specs.Form.{has_second, reads_d}
use Rattle.trees.specs.Trees.{keep_lower, result_tree}
use Rattle.trees.specs.Arith as Arith
use Rattle.trees.specs.Width as Width
use Rattle.trees.specs.Neon as Neon

true≢false : true ≡ false → ⊥
true≢false e = false≢true (sym e)

pub unread-second : (o : Op) (v : Arrangement) (i : ℕ) (d a b b' : Expr) → has_second o ≡ false → result_tree o v i d a b ≡ result_tree o v i d a b'
unfolding Neon.result_tree Arith.shift_lanes Arith.shift_lane Arith.shift_insert_lanes Arith.mixed_sign_add_lanes Arith.saturating_lanes
    Arith.saturating_lane Arith.bitwise_unary_lanes
unread-second Op.SHL v i d a b b' h = refl
unread-second Op.SQSHLI v i d a b b' h = refl
unread-second Op.UQSHLI v i d a b b' h = refl
unread-second Op.SQSHLU v i d a b b' h = refl
unread-second Op.SSHR v i d a b b' h = refl
unread-second Op.USHR v i d a b b' h = refl
unread-second Op.SRSHR v i d a b b' h = refl
unread-second Op.URSHR v i d a b b' h = refl
unread-second Op.SSHL v i d a b b' h = absurd (true≢false h)
unread-second Op.USHL v i d a b b' h = absurd (true≢false h)
unread-second Op.SRSHL v i d a b b' h = absurd (true≢false h)
unread-second Op.URSHL v i d a b b' h = absurd (true≢false h)
unread-second Op.SQSHL v i d a b b' h = absurd (true≢false h)
unread-second Op.UQSHL v i d a b b' h = absurd (true≢false h)
unread-second Op.SQRSHL v i d a b b' h = absurd (true≢false h)
unread-second Op.UQRSHL v i d a b b' h = absurd (true≢false h)
unread-second Op.SLI v i d a b b' h = refl
unread-second Op.SRI v i d a b b' h = refl
unread-second Op.SQADD v i d a b b' h = absurd (true≢false h)
unread-second Op.UQADD v i d a b b' h = absurd (true≢false h)
unread-second Op.SQSUB v i d a b b' h = absurd (true≢false h)
unread-second Op.UQSUB v i d a b b' h = absurd (true≢false h)
unread-second Op.SHADD v i d a b b' h = absurd (true≢false h)
unread-second Op.UHADD v i d a b b' h = absurd (true≢false h)
unread-second Op.SRHADD v i d a b b' h = absurd (true≢false h)
unread-second Op.URHADD v i d a b b' h = absurd (true≢false h)
unread-second Op.SQXTN v i d a b b' h = refl
unread-second Op.UQXTN v i d a b b' h = refl
unread-second Op.SQXTUN v i d a b b' h = refl
unread-second Op.SHRN v i d a b b' h = refl
unread-second Op.RSHRN v i d a b b' h = refl
unread-second Op.SQSHRN v i d a b b' h = refl
unread-second Op.SQRSHRN v i d a b b' h = refl
unread-second Op.UQSHRN v i d a b b' h = refl
unread-second Op.UQRSHRN v i d a b b' h = refl
unread-second Op.SQSHRUN v i d a b b' h = refl
unread-second Op.SQRSHRUN v i d a b b' h = refl
unread-second Op.SQABS v i d a b b' h = refl
unread-second Op.SQNEG v i d a b b' h = refl
unread-second Op.SQDMULH v i d a b b' h = absurd (true≢false h)
unread-second Op.SQRDMULH v i d a b b' h = absurd (true≢false h)
unread-second Op.SQDMULL v i d a b b' h = absurd (true≢false h)
unread-second Op.SQDMLAL v i d a b b' h = absurd (true≢false h)
unread-second Op.SQDMLSL v i d a b b' h = absurd (true≢false h)
unread-second Op.SQDMULL2 v i d a b b' h = absurd (true≢false h)
unread-second Op.SQDMLAL2 v i d a b b' h = absurd (true≢false h)
unread-second Op.SQDMLSL2 v i d a b b' h = absurd (true≢false h)
unread-second Op.SQDMULLE v i d a b b' h = absurd (true≢false h)
unread-second Op.SQDMLALE v i d a b b' h = absurd (true≢false h)
unread-second Op.SQDMLSLE v i d a b b' h = absurd (true≢false h)
unread-second Op.SQDMULL2E v i d a b b' h = absurd (true≢false h)
unread-second Op.SQDMLAL2E v i d a b b' h = absurd (true≢false h)
unread-second Op.SQDMLSL2E v i d a b b' h = absurd (true≢false h)
unread-second Op.SUQADD v i d a b b' h = refl
unread-second Op.USQADD v i d a b b' h = refl
unread-second Op.SABD v i d a b b' h = absurd (true≢false h)
unread-second Op.UABD v i d a b b' h = absurd (true≢false h)
unread-second Op.SABA v i d a b b' h = absurd (true≢false h)
unread-second Op.UABA v i d a b b' h = absurd (true≢false h)
unread-second Op.CNT v i d a b b' h = refl
unread-second Op.CLZ v i d a b b' h = refl
unread-second Op.CLS v i d a b b' h = refl
unread-second Op.RBIT v i d a b b' h = refl
unread-second Op.ADDHN v i d a b b' h = absurd (true≢false h)
unread-second Op.RADDHN v i d a b b' h = absurd (true≢false h)
unread-second Op.SUBHN v i d a b b' h = absurd (true≢false h)
unread-second Op.RSUBHN v i d a b b' h = absurd (true≢false h)

keep-unread : (f : Bool) → f ≡ false → (new d d' : Expr) (n k : ℕ) → keep_lower f new d n k ≡ keep_lower f new d' n k
keep-unread true h new d d' n k = absurd (true≢false h)
keep-unread false h new d d' n k = refl

pub unread-old : (o : Op) (v : Arrangement) (i : ℕ) (d d' a b : Expr) → reads_d o v ≡ false → result_tree o v i d a b ≡ result_tree o v i d' a b
unfolding Neon.result_tree Arith.shift_lanes Arith.shift_insert_lanes Arith.mixed_sign_add_lanes Arith.doubling_long_lanes Arith.doubling_long_lane Arith.saturating_lanes
    Arith.bitwise_unary_lanes Arith.absolute_difference_lanes Width.high_narrow_lanes
unread-old Op.SHL v i d d' a b h = refl
unread-old Op.SQSHLI v i d d' a b h = refl
unread-old Op.UQSHLI v i d d' a b h = refl
unread-old Op.SQSHLU v i d d' a b h = refl
unread-old Op.SSHR v i d d' a b h = refl
unread-old Op.USHR v i d d' a b h = refl
unread-old Op.SRSHR v i d d' a b h = refl
unread-old Op.URSHR v i d d' a b h = refl
unread-old Op.SSHL v i d d' a b h = refl
unread-old Op.USHL v i d d' a b h = refl
unread-old Op.SRSHL v i d d' a b h = refl
unread-old Op.URSHL v i d d' a b h = refl
unread-old Op.SQSHL v i d d' a b h = refl
unread-old Op.UQSHL v i d d' a b h = refl
unread-old Op.SQRSHL v i d d' a b h = refl
unread-old Op.UQRSHL v i d d' a b h = refl
unread-old Op.SLI v i d d' a b h = absurd (true≢false h)
unread-old Op.SRI v i d d' a b h = absurd (true≢false h)
unread-old Op.SQADD v i d d' a b h = refl
unread-old Op.UQADD v i d d' a b h = refl
unread-old Op.SQSUB v i d d' a b h = refl
unread-old Op.UQSUB v i d d' a b h = refl
unread-old Op.SHADD v i d d' a b h = refl
unread-old Op.UHADD v i d d' a b h = refl
unread-old Op.SRHADD v i d d' a b h = refl
unread-old Op.URHADD v i d d' a b h = refl
unread-old Op.SQXTN v i d d' a b h = keep-unread (full v) h _ d d' _ _
unread-old Op.UQXTN v i d d' a b h = keep-unread (full v) h _ d d' _ _
unread-old Op.SQXTUN v i d d' a b h = keep-unread (full v) h _ d d' _ _
unread-old Op.SHRN v i d d' a b h = keep-unread (full v) h _ d d' _ _
unread-old Op.RSHRN v i d d' a b h = keep-unread (full v) h _ d d' _ _
unread-old Op.SQSHRN v i d d' a b h = keep-unread (full v) h _ d d' _ _
unread-old Op.SQRSHRN v i d d' a b h = keep-unread (full v) h _ d d' _ _
unread-old Op.UQSHRN v i d d' a b h = keep-unread (full v) h _ d d' _ _
unread-old Op.UQRSHRN v i d d' a b h = keep-unread (full v) h _ d d' _ _
unread-old Op.SQSHRUN v i d d' a b h = keep-unread (full v) h _ d d' _ _
unread-old Op.SQRSHRUN v i d d' a b h = keep-unread (full v) h _ d d' _ _
unread-old Op.SQABS v i d d' a b h = refl
unread-old Op.SQNEG v i d d' a b h = refl
unread-old Op.SQDMULH v i d d' a b h = refl
unread-old Op.SQRDMULH v i d d' a b h = refl
unread-old Op.SQDMULL v i d d' a b h = refl
unread-old Op.SQDMLAL v i d d' a b h = absurd (true≢false h)
unread-old Op.SQDMLSL v i d d' a b h = absurd (true≢false h)
unread-old Op.SQDMULL2 v i d d' a b h = refl
unread-old Op.SQDMLAL2 v i d d' a b h = absurd (true≢false h)
unread-old Op.SQDMLSL2 v i d d' a b h = absurd (true≢false h)
unread-old Op.SQDMULLE v i d d' a b h = refl
unread-old Op.SQDMLALE v i d d' a b h = absurd (true≢false h)
unread-old Op.SQDMLSLE v i d d' a b h = absurd (true≢false h)
unread-old Op.SQDMULL2E v i d d' a b h = refl
unread-old Op.SQDMLAL2E v i d d' a b h = absurd (true≢false h)
unread-old Op.SQDMLSL2E v i d d' a b h = absurd (true≢false h)
unread-old Op.SUQADD v i d d' a b h = absurd (true≢false h)
unread-old Op.USQADD v i d d' a b h = absurd (true≢false h)
unread-old Op.SABD v i d d' a b h = refl
unread-old Op.UABD v i d d' a b h = refl
unread-old Op.SABA v i d d' a b h = absurd (true≢false h)
unread-old Op.UABA v i d d' a b h = absurd (true≢false h)
unread-old Op.CNT v i d d' a b h = refl
unread-old Op.CLZ v i d d' a b h = refl
unread-old Op.CLS v i d d' a b h = refl
unread-old Op.RBIT v i d d' a b h = refl
unread-old Op.ADDHN v i d d' a b h = keep-unread (full v) h _ d d' _ _
unread-old Op.RADDHN v i d d' a b h = keep-unread (full v) h _ d d' _ _
unread-old Op.SUBHN v i d d' a b h = keep-unread (full v) h _ d d' _ _
unread-old Op.RSUBHN v i d d' a b h = keep-unread (full v) h _ d d' _ _
