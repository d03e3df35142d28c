-- The lane by family is the lane of each operation, and so is whether it saturates. Assumes nothing.
use mathlib.Core.Path.{◌≡◌, refl}
use mathlib.Core.Bool.{Bool}
use Prim.Native.Nat.{ℕ}
use Rattle.neon.specs.Op.{Op}
use Rattle.neon.specs.Arm.{arm_lane}
use Rattle.trees.specs.Neon.{neon_op}
use Rattle.saturation.specs.Saturates.{saturates_lane}
use Rattle.saturation.specs.Family.{family_lane, family_beyond}

pub family-is : (o : Op) (n i d a b : ℕ) (u : Bool) → family_lane (neon_op o i u) n d a b ≡ arm_lane o n i d a b
unfolding family_lane arm_lane
family-is Op.SHL n i d a b u = refl
family-is Op.SQSHLI n i d a b u = refl
family-is Op.UQSHLI n i d a b u = refl
family-is Op.SQSHLU n i d a b u = refl
family-is Op.SSHR n i d a b u = refl
family-is Op.USHR n i d a b u = refl
family-is Op.SRSHR n i d a b u = refl
family-is Op.URSHR n i d a b u = refl
family-is Op.SSHL n i d a b u = refl
family-is Op.USHL n i d a b u = refl
family-is Op.SRSHL n i d a b u = refl
family-is Op.URSHL n i d a b u = refl
family-is Op.SQSHL n i d a b u = refl
family-is Op.UQSHL n i d a b u = refl
family-is Op.SQRSHL n i d a b u = refl
family-is Op.UQRSHL n i d a b u = refl
family-is Op.SLI n i d a b u = refl
family-is Op.SRI n i d a b u = refl
family-is Op.SQADD n i d a b u = refl
family-is Op.UQADD n i d a b u = refl
family-is Op.SQSUB n i d a b u = refl
family-is Op.UQSUB n i d a b u = refl
family-is Op.SHADD n i d a b u = refl
family-is Op.UHADD n i d a b u = refl
family-is Op.SRHADD n i d a b u = refl
family-is Op.URHADD n i d a b u = refl
family-is Op.SQXTN n i d a b u = refl
family-is Op.UQXTN n i d a b u = refl
family-is Op.SQXTUN n i d a b u = refl
family-is Op.SHRN n i d a b u = refl
family-is Op.RSHRN n i d a b u = refl
family-is Op.SQSHRN n i d a b u = refl
family-is Op.SQRSHRN n i d a b u = refl
family-is Op.UQSHRN n i d a b u = refl
family-is Op.UQRSHRN n i d a b u = refl
family-is Op.SQSHRUN n i d a b u = refl
family-is Op.SQRSHRUN n i d a b u = refl
family-is Op.SQABS n i d a b u = refl
family-is Op.SQNEG n i d a b u = refl
family-is Op.SQDMULH n i d a b u = refl
family-is Op.SQRDMULH n i d a b u = refl
family-is Op.SQDMULL n i d a b u = refl
family-is Op.SQDMLAL n i d a b u = refl
family-is Op.SQDMLSL n i d a b u = refl
family-is Op.SQDMULL2 n i d a b u = refl
family-is Op.SQDMLAL2 n i d a b u = refl
family-is Op.SQDMLSL2 n i d a b u = refl
family-is Op.SQDMULLE n i d a b u = refl
family-is Op.SQDMLALE n i d a b u = refl
family-is Op.SQDMLSLE n i d a b u = refl
family-is Op.SQDMULL2E n i d a b u = refl
family-is Op.SQDMLAL2E n i d a b u = refl
family-is Op.SQDMLSL2E n i d a b u = refl
family-is Op.SUQADD n i d a b u = refl
family-is Op.USQADD n i d a b u = refl
family-is Op.SABD n i d a b u = refl
family-is Op.UABD n i d a b u = refl
family-is Op.SABA n i d a b u = refl
family-is Op.UABA n i d a b u = refl
family-is Op.CNT n i d a b u = refl
family-is Op.CLZ n i d a b u = refl
family-is Op.CLS n i d a b u = refl
family-is Op.RBIT n i d a b u = refl
family-is Op.ADDHN n i d a b u = refl
family-is Op.RADDHN n i d a b u = refl
family-is Op.SUBHN n i d a b u = refl
family-is Op.RSUBHN n i d a b u = refl

pub beyond-is : (o : Op) (n i d a b : ℕ) (u : Bool) → family_beyond (neon_op o i u) n d a b ≡ saturates_lane o n i d a b
unfolding family_beyond saturates_lane
beyond-is Op.SHL n i d a b u = refl
beyond-is Op.SQSHLI n i d a b u = refl
beyond-is Op.UQSHLI n i d a b u = refl
beyond-is Op.SQSHLU n i d a b u = refl
beyond-is Op.SSHR n i d a b u = refl
beyond-is Op.USHR n i d a b u = refl
beyond-is Op.SRSHR n i d a b u = refl
beyond-is Op.URSHR n i d a b u = refl
beyond-is Op.SSHL n i d a b u = refl
beyond-is Op.USHL n i d a b u = refl
beyond-is Op.SRSHL n i d a b u = refl
beyond-is Op.URSHL n i d a b u = refl
beyond-is Op.SQSHL n i d a b u = refl
beyond-is Op.UQSHL n i d a b u = refl
beyond-is Op.SQRSHL n i d a b u = refl
beyond-is Op.UQRSHL n i d a b u = refl
beyond-is Op.SLI n i d a b u = refl
beyond-is Op.SRI n i d a b u = refl
beyond-is Op.SQADD n i d a b u = refl
beyond-is Op.UQADD n i d a b u = refl
beyond-is Op.SQSUB n i d a b u = refl
beyond-is Op.UQSUB n i d a b u = refl
beyond-is Op.SHADD n i d a b u = refl
beyond-is Op.UHADD n i d a b u = refl
beyond-is Op.SRHADD n i d a b u = refl
beyond-is Op.URHADD n i d a b u = refl
beyond-is Op.SQXTN n i d a b u = refl
beyond-is Op.UQXTN n i d a b u = refl
beyond-is Op.SQXTUN n i d a b u = refl
beyond-is Op.SHRN n i d a b u = refl
beyond-is Op.RSHRN n i d a b u = refl
beyond-is Op.SQSHRN n i d a b u = refl
beyond-is Op.SQRSHRN n i d a b u = refl
beyond-is Op.UQSHRN n i d a b u = refl
beyond-is Op.UQRSHRN n i d a b u = refl
beyond-is Op.SQSHRUN n i d a b u = refl
beyond-is Op.SQRSHRUN n i d a b u = refl
beyond-is Op.SQABS n i d a b u = refl
beyond-is Op.SQNEG n i d a b u = refl
beyond-is Op.SQDMULH n i d a b u = refl
beyond-is Op.SQRDMULH n i d a b u = refl
beyond-is Op.SQDMULL n i d a b u = refl
beyond-is Op.SQDMLAL n i d a b u = refl
beyond-is Op.SQDMLSL n i d a b u = refl
beyond-is Op.SQDMULL2 n i d a b u = refl
beyond-is Op.SQDMLAL2 n i d a b u = refl
beyond-is Op.SQDMLSL2 n i d a b u = refl
beyond-is Op.SQDMULLE n i d a b u = refl
beyond-is Op.SQDMLALE n i d a b u = refl
beyond-is Op.SQDMLSLE n i d a b u = refl
beyond-is Op.SQDMULL2E n i d a b u = refl
beyond-is Op.SQDMLAL2E n i d a b u = refl
beyond-is Op.SQDMLSL2E n i d a b u = refl
beyond-is Op.SUQADD n i d a b u = refl
beyond-is Op.USQADD n i d a b u = refl
beyond-is Op.SABD n i d a b u = refl
beyond-is Op.UABD n i d a b u = refl
beyond-is Op.SABA n i d a b u = refl
beyond-is Op.UABA n i d a b u = refl
beyond-is Op.CNT n i d a b u = refl
beyond-is Op.CLZ n i d a b u = refl
beyond-is Op.CLS n i d a b u = refl
beyond-is Op.RBIT n i d a b u = refl
beyond-is Op.ADDHN n i d a b u = refl
beyond-is Op.RADDHN n i d a b u = refl
beyond-is Op.SUBHN n i d a b u = refl
beyond-is Op.RSUBHN n i d a b u = refl
