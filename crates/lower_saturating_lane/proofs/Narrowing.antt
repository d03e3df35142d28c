-- The narrowing of a lane's exact value, from what the calls build: it is the lane. Assumes nothing.
use Prim.Native.Nat.{ℕ, ◌-◌, ◌≤◌}
use mathlib.Core.Path.{◌≡◌, refl}
use mathlib.Core.Bool.{Bool}
use mathlib.Core.List.{List, [], ◌∷◌}
use native.Mathlib.Omega.{arith}
use Rattle.terms.specs.Expr.{Expr}
use Rattle.pool.specs.declared.Node.{Node}
use Rattle.pool.specs.declared.Built.{Built}
use Rattle.pool_nodes.specs.Builders.{MadeExtract}
use Rattle.pool.proofs.Steps.{start, step, finish, given}
use Rattle.trees.specs.declared.SaturateTo.{SaturateTo}
use Rattle.std.specs.declared.option.Option.{Option}
use Rattle.std.specs.declared.option.Option.TheVariants.{None, Some}
use Rattle.trees.specs.declared.SaturatingKind.{SaturatingKind}
use Rattle.trees.specs.declared.SaturatingKind.TheVariants.{AddSub, Halving, Narrow, ShiftNarrow, DoublingMultiplyHigh, Unary}
use Rattle.trees.specs.Arith.{exact_lane, exact_bits, kind_to, kind_bits}
use Rattle.trees.specs.Trees.{clamp, saturating_lane}
use Rattle.trees.specs.Arith as Arith
use Rattle.lower.specs.Builds.{Builds1, BuildsIf}
use Rattle.lower_kinds.specs.Sources.{uses_second}
use Rattle.lower_exact.proofs.Exactly.{then_if, same-tree}
use Rattle.lower_saturating_lane.specs.Narrow.{narrowed_plain}

pub narrowed-never : {w0 w1 : List ℕ} {k : ℕ} {r : Built} {to : Option SaturateTo} {value : Node} {wide n : ℕ}
    → 1 ≤ n
    → n ≤ wide
    → to ≡ None
    → MadeExtract w0 k w1 r value (n - 1) 0
    → Builds1 w0 k w1 r 7 value wide n (λ v. narrowed_plain v wide n to) (value.0 ∷ [])
narrowed-never {value = value} {wide = wide} l m q e1 =
    rw q
    (record {
      sized = omega (arith, e1.sized);
      made = λ {ta} v x.
          let s0 = start v (given value.0 wide ta ∷ []) (x, tt) in
          finish (step s0 (0 ∷ []) (e1.made s0.valid (omega arith) (omega arith) s0.env.0)) tt;
    })

pub narrowed-into : {w0 w1 : List ℕ} {k : ℕ} {r : Built} {to : Option SaturateTo} {target : SaturateTo} {value : Node} {wide n : ℕ} → to ≡ Some target
    → Builds1 w0 k w1 r 7 value wide n (λ v. clamp v wide n target) (value.0 ∷ [])
    → Builds1 w0 k w1 r 7 value wide n (λ v. narrowed_plain v wide n to) (value.0 ∷ [])
narrowed-into q e = rw q e

-- a lane is its exact value, narrowed; the value that is cut without a clamp is a shift, which is no Extract
lane_of : (kind : SaturatingKind) (n : ℕ) (signed : Bool) (a b : Expr)
    → saturating_lane kind a b n signed ≡ narrowed_plain (exact_lane kind a b n signed) (exact_bits kind n) n (kind_to kind)
unfolding Arith.saturating_lane
lane_of (AddSub op to) n signed a b = refl
lane_of (Halving rounding) n signed a b = refl
lane_of (Narrow to) n signed a b = refl
lane_of (ShiftNarrow shift rounding None) n signed a b = refl
lane_of (ShiftNarrow shift rounding (Some to)) n signed a b = refl
lane_of (Unary negate) n signed a b = refl
lane_of (DoublingMultiplyHigh rounding) n signed a b = refl

pub saturating : {w0 w1 w2 : List ℕ} {k : ℕ} {r1 r2 : Built} (kind : SaturatingKind) {a b : Node} (n : ℕ) (signed : Bool) {wide : ℕ} {to : Option SaturateTo}
    → wide ≡ exact_bits kind n
    → to ≡ kind_to kind
    → BuildsIf w0 k w1 r1 9 a (kind_bits kind n) (uses_second kind) b (kind_bits kind n) (exact_bits kind n) (λ a b. exact_lane kind a b n signed)
    → Builds1 w1 r1.count w2 r2 7 r1.node wide n (λ v. narrowed_plain v wide n to) (r1.node.0 ∷ [])
    → BuildsIf w0 k w2 r2 16 a (kind_bits kind n) (uses_second kind) b (kind_bits kind n) n (λ a b. saturating_lane kind a b n signed)
saturating kind n signed p q e1 e2 = same-tree (lane_of kind n signed) (then_if (uses_second kind) e1 (rw (p, q) at e2))
