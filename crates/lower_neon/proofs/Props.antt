-- What the rows of a family ask has one proof at most, so a ghost field may hold it.
use Prim.Native.Nat.{ℕ}
use Rattle.trees.specs.declared.NeonOp.{NeonOp}
use Rattle.trees.specs.declared.NeonOp.TheVariants.{Shift, ShiftInsert, MixedSignAdd, DoublingLong, Saturating, BitwiseUnary, AbsoluteDifference, HighNarrow}
use Rattle.std.proofs.Props.{props}
use Rattle.lower_kinds.proofs.Props.{AmountIn-prop, KindIn-prop}
use Rattle.lower_neon.specs.Family.{FamilyIn}

pub FamilyIn-prop : (op : NeonOp) (n k i : ℕ) → IsProp (FamilyIn op n k i)
FamilyIn-prop (Shift kind signed) n k i = AmountIn-prop kind n
FamilyIn-prop (ShiftInsert left shift) n k i = Prim.hlevel props
FamilyIn-prop (MixedSignAdd signed) n k i = Prim.hlevel props
FamilyIn-prop (DoublingLong combine upper by_element) n k i = Prim.hlevel props
FamilyIn-prop (Saturating kind signed upper) n k i = Prim.hlevel (props, KindIn-prop)
FamilyIn-prop (BitwiseUnary kind) n k i = Prim.hlevel props
FamilyIn-prop (AbsoluteDifference signed accumulate) n k i = Prim.hlevel props
FamilyIn-prop (HighNarrow subtract rounding upper) n k i = Prim.hlevel props
