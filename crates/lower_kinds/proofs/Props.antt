-- What a row asks of a kind has one proof at most, so a ghost field may hold it.
use Prim.Native.Nat.{ℕ}
use Rattle.trees.specs.declared.ShiftKind.{ShiftKind}
use Rattle.trees.specs.declared.ShiftKind.TheVariants.{LeftImmediate, RightImmediate, Register}
use Rattle.trees.specs.declared.SaturatingKind.{SaturatingKind}
use Rattle.trees.specs.declared.SaturatingKind.TheVariants.{AddSub, Halving, Narrow, ShiftNarrow, DoublingMultiplyHigh, Unary}
use Rattle.std.proofs.Props.{props}
use Rattle.lower_kinds.specs.Sources.{AmountIn, KindIn}

pub AmountIn-prop : (kind : ShiftKind) (n : ℕ) → IsProp (AmountIn kind n)
AmountIn-prop (LeftImmediate shift saturate) n = Prim.hlevel props
AmountIn-prop (RightImmediate shift rounding) n = Prim.hlevel props
AmountIn-prop (Register rounding saturate) n = Prim.hlevel props

pub KindIn-prop : (kind : SaturatingKind) (n : ℕ) → IsProp (KindIn kind n)
KindIn-prop (AddSub op to) n = Prim.hlevel props
KindIn-prop (Halving rounding) n = Prim.hlevel props
KindIn-prop (Narrow to) n = Prim.hlevel props
KindIn-prop (ShiftNarrow shift rounding to) n = Prim.hlevel props
KindIn-prop (DoublingMultiplyHigh rounding) n = Prim.hlevel props
KindIn-prop (Unary negate) n = Prim.hlevel props
