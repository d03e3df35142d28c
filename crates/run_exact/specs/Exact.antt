-- Three words that hold an exact integer, and a lane that answers.
use Rattle.std.specs.Prelude.{Bool, true, false, ◌≡◌, ℕ, ◌+◌, ◌≤◌, ◌<◌, ℤ, pos, neg_ℤ, nat_abs}
use Rattle.terms.specs.declared.BinOp.{BinOp}
use Rattle.terms.specs.declared.BinOp.TheVariants.{Add, Sub, Mul, And, Or, Xor, Shl, LShr, AShr}
use Rattle.trees.specs.declared.SaturateTo.{SaturateTo}
use Rattle.std.specs.declared.option.Option.{Option}
use Rattle.neon.specs.Arm.{wrap, byte, scale, clamp_z}
use Rattle.saturation.specs.Saturates.{outside}
use Rattle.saturation.specs.Family.{limited, beyond_limit, clamp_to, beyond_to, join_z, right_z, turn_z, unary_z}
use Rattle.trees_value.specs.Fits.{FitsS}
use Rattle.wide.specs.declared.Wide.{Wide}
use Rattle.wide.specs.Number.{num}

-- v stands for z modulo 2^192, and z is a signed number of w bits
pub record Held (w : ℕ) (v : Wide) (z : ℤ) : Type 0 where
  pub stands : num v ≡ wrap 192 z
  pub fits : FitsS w z

-- the bits of a lane, and whether it saturated
pub record Answers (want : ℕ) (beyond : Bool) (bits : ℕ) (saturated : Bool) : Type 0 where
  pub bits_are : bits ≡ want
  pub saturated_is : saturated ≡ beyond

-- what each function makes of the integers that its arguments hold
abbrev pub Kept : (n : ℕ) → Wide → (r : ℕ) → Type 0
Kept n v r = (w : ℕ) (z : ℤ) → Held w v z → r ≡ wrap n z

abbrev pub Between : (n : ℕ) → (low high v : Wide) → ℕ → Bool → Type 0
Between n low high v bits saturated = (l h z : ℤ) → Held 192 low l → Held 192 high h → Held 192 v z → Answers (wrap n (clamp_z l h z)) (outside l h z) bits saturated

abbrev pub ClampedTo : SaturateTo → (n : ℕ) → Wide → ℕ → Bool → Type 0
ClampedTo to n v bits saturated = (z : ℤ) → Held 192 v z → Answers (wrap n (clamp_to to n z)) (beyond_to to n z) bits saturated

abbrev pub Limited : Option SaturateTo → (n : ℕ) → Wide → ℕ → Bool → Type 0
Limited saturate n v bits saturated = (z : ℤ) → Held 192 v z → Answers (wrap n (limited saturate n z)) (beyond_limit saturate n z) bits saturated

abbrev pub Joined : BinOp → (a b r : Wide) → Type 0
Joined op a b r = (w : ℕ) (x y : ℤ) → 0 < w → Held w a x → Held w b y → Held (w + 1) r (join_z op x y)

abbrev pub Scaled : Wide → ℕ → Wide → Type 0
Scaled v k r = (w : ℕ) (z : ℤ) → 0 < w → Held w v z → Held (w + k) r (scale z k)

abbrev pub Lowered : Bool → Wide → ℕ → Wide → Type 0
Lowered rounding v k r = (w : ℕ) (z : ℤ) → w ≤ 191 → Held w v z → Held w r (right_z rounding z k)

abbrev pub Turned : Bool → Wide → ℕ → Wide → Type 0
Turned rounding v b r = (z : ℤ) → Held 65 v z → Held 192 r (turn_z rounding z (byte b))

abbrev pub Negated : Wide → Wide → Type 0
Negated v r = (w : ℕ) (z : ℤ) → 0 < w → Held w v z → Held (w + 1) r (neg_ℤ z)

abbrev pub Magnitude : Wide → Wide → Type 0
Magnitude v r = (w : ℕ) (z : ℤ) → 0 < w → w ≤ 192 → Held w v z → Held (w + 1) r (pos (nat_abs z))

abbrev pub OfUnary : Bool → Wide → Wide → Type 0
OfUnary negate v r = (w : ℕ) (z : ℤ) → 0 < w → w ≤ 192 → Held w v z → Held (w + 1) r (unary_z negate z)

abbrev pub is_sub : BinOp → Bool
is_sub Sub = true
is_sub Add = false
is_sub Mul = false
is_sub And = false
is_sub Or = false
is_sub Xor = false
is_sub Shl = false
is_sub LShr = false
is_sub AShr = false
