-- The bit of a clamp, from what its calls build, and those of the lanes that clamp an exact value. Assumes nothing.
use Prim.Native.Nat.{ℕ, ◌+◌, ◌-◌, ◌^◌, ◌≤◌, ◌<◌}
use mathlib.Core.Path.{◌≡◌, refl}
use mathlib.Core.Bool.{Bool, cond, not}
use mathlib.Core.List.{List, [], ◌∷◌}
use native.Mathlib.Omega.{arith}
use Rattle.terms.specs.declared.BinOp.TheVariants.{Add}
use Rattle.terms.specs.declared.CmpOp.{CmpOp}
use Rattle.terms.specs.declared.CmpOp.TheVariants.{Ult, Slt}
use Rattle.terms.specs.Expr.{Expr, Const, Compare, Ite}
use Rattle.pool.specs.declared.Node.{Node}
use Rattle.pool.specs.declared.Built.{Built}
use Rattle.pool.specs.Node.{wide as words}
use Rattle.pool_nodes.specs.Builders.{MadeConst, MadeCompare, MadeIte}
use Rattle.pool.proofs.Steps.{start, step, finish, given}
use Rattle.trees.specs.declared.SaturateTo.{SaturateTo}
use Rattle.trees.specs.declared.SaturateTo.TheVariants.{Signed, Unsigned, SignedToUnsigned}
use Rattle.std.specs.declared.option.Option.TheVariants.{Some}
use Rattle.trees.specs.declared.SaturatingKind.{SaturatingKind}
use Rattle.trees.specs.Lower.{unsigned_max}
use Rattle.trees.specs.Arith.{joined, exact_lane, exact_bits, kind_to, kind_bits}
use Rattle.lower.specs.Builds.{Builds1, Builds2, BuildsIf}
use Rattle.lower_kinds.specs.Sources.{uses_second}
use Rattle.lower_exact.proofs.Exactly.{then2, then_if}
use Rattle.saturation.specs.Bits.{no, yes, clipped_between, clipped, saturating_bit, mixed_sign_bit}

pub one-where : {w0 w1 w2 : List ℕ} {k : ℕ} {r1 r2 : Built} {test other : Node}
    → MadeConst w0 k w1 r1 1 0 1
    → MadeIte w1 r1.count w2 r2 test r1.node other
    → Builds2 w0 k w2 r2 2 test 0 other 1 1 (λ t o. Ite t yes o) (test.0 ∷ other.0 ∷ [])
one-where {test = test} {other = other} e1 e2 =
    record {
      sized = omega (arith, e1.sized, e2.sized);
      made = λ {ta} {tb} v x y.
          let s0 = start v (given test.0 0 ta ∷ given other.0 1 tb ∷ []) (x, (y, tt)) in
          let s1 = step s0 [] (e1.made s0.valid (omega arith) (omega arith) refl (omega arith)) in
          finish (step s1 (1 ∷ 0 ∷ 2 ∷ []) (e2.made s1.valid (omega arith) (omega arith) s1.env.1.0 s1.env.0 s1.env.1.1.0)) tt;
    }

pub above : {w0 w1 w2 w3 w4 : List ℕ} {k : ℕ} {r1 r2 r3 r4 : Built} {op : CmpOp} {value : Node} {hl hh wide : ℕ}
    → 1 ≤ wide → wide ≤ 128 → words hl hh < 2 ^ wide
    → MadeConst w0 k w1 r1 hl hh wide
    → MadeCompare w1 r1.count w2 r2 op r1.node value
    → MadeConst w2 r2.count w3 r3 0 0 1
    → Builds2 w3 r3.count w4 r4 2 r2.node 0 r3.node 1 1 (λ t o. Ite t yes o) (r2.node.0 ∷ r3.node.0 ∷ [])
    → Builds1 w0 k w4 r4 5 value wide 1 (λ v. Ite (Compare op (Const (words hl hh) wide) v) yes no) (value.0 ∷ [])
above {value = value} {wide = wide} l h hi e1 e2 e3 e4 =
    record {
      sized = omega (arith, e1.sized, e2.sized, e3.sized, e4.sized);
      made = λ {ta} v x.
          let s0 = start v (given value.0 wide ta ∷ []) (x, tt) in
          let s1 = step s0 [] (e1.made s0.valid l (omega arith) refl hi) in
          let s2 = step s1 (0 ∷ 1 ∷ []) (e2.made s1.valid l s1.env.0 s1.env.1.0) in
          let s3 = step s2 [] (e3.made s2.valid (omega arith) (omega arith) refl (omega arith)) in
          finish (step s3 (1 ∷ 0 ∷ []) (e4.made s3.valid s3.env.1.0 s3.env.0)) tt;
    }

pub below : {w0 w1 w2 w3 : List ℕ} {k : ℕ} {r1 r2 r3 : Built} {value other : Node} {ll lh wide : ℕ}
    → 1 ≤ wide → wide ≤ 128 → words ll lh < 2 ^ wide
    → MadeConst w0 k w1 r1 ll lh wide
    → MadeCompare w1 r1.count w2 r2 Slt value r1.node
    → Builds2 w2 r2.count w3 r3 2 r2.node 0 other 1 1 (λ t o. Ite t yes o) (r2.node.0 ∷ other.0 ∷ [])
    → Builds2 w0 k w3 r3 4 value wide other 1 1 (λ v o. Ite (Compare Slt v (Const (words ll lh) wide)) yes o) (value.0 ∷ other.0 ∷ [])
below {value = value} {other = other} {wide = wide} l h lo e1 e2 e3 =
    record {
      sized = omega (arith, e1.sized, e2.sized, e3.sized);
      made = λ {ta} {tb} v x y.
          let s0 = start v (given value.0 wide ta ∷ given other.0 1 tb ∷ []) (x, (y, tt)) in
          let s1 = step s0 [] (e1.made s0.valid l (omega arith) refl lo) in
          let s2 = step s1 (1 ∷ 0 ∷ []) (e2.made s1.valid l s1.env.1.0 s1.env.0) in
          finish (step s2 (0 ∷ 3 ∷ []) (e3.made s2.valid s2.env.0 s2.env.1.1.1.0)) tt;
    }

pub between : {w0 w1 w2 : List ℕ} {k : ℕ} {r1 r2 : Built} {value : Node} {low high : Expr} {wide : ℕ}
    → Builds1 w0 k w1 r1 5 value wide 1 (λ v. Ite (Compare Slt high v) yes no) (value.0 ∷ [])
    → Builds2 w1 r1.count w2 r2 4 value wide r1.node 1 1 (λ v o. Ite (Compare Slt v low) yes o) (value.0 ∷ r1.node.0 ∷ [])
    → Builds1 w0 k w2 r2 9 value wide 1 (λ v. clipped_between v low high) (value.0 ∷ [])
between {value = value} {wide = wide} e1 e2 =
    record {
      sized = omega (arith, e1.sized, e2.sized);
      made = λ {ta} v x.
          let s0 = start v (given value.0 wide ta ∷ []) (x, tt) in
          let s1 = step s0 (0 ∷ []) (e1.made s0.valid s0.env.0) in
          finish (step s1 (1 ∷ 0 ∷ []) (e2.made s1.valid s1.env.1.0 s1.env.0)) tt;
    }

module _ {w0 w1 : List ℕ} {k : ℕ} {r : Built} {value : Node} {wide : ℕ} (narrow : ℕ) {to : SaturateTo} where
  pub clip-signed : {p low high : ℕ} → to ≡ Signed → p ≡ 2 ^ (narrow - 1) → low ≡ 2 ^ wide - 2 ^ (narrow - 1) → words (p - 1) 0 ≡ high
      → Builds1 w0 k w1 r 9 value wide 1 (λ v. clipped_between v (Const low wide) (Const high wide)) (value.0 ∷ [])
      → Builds1 w0 k w1 r 9 value wide 1 (λ v. clipped v wide narrow to) (value.0 ∷ [])
  unfolding clipped
  clip-signed {p} {low} {high} q e f g d =
      let h : high ≡ 2 ^ (narrow - 1) - 1 = omega arith in
      rw (q, ← f, ← h) d

  pub clip-unsigned : {h high : ℕ} → to ≡ Unsigned → h ≡ unsigned_max narrow → words h 0 ≡ high
      → Builds1 w0 k w1 r 5 value wide 1 (λ v. Ite (Compare Ult (Const high wide) v) yes no) (value.0 ∷ [])
      → Builds1 w0 k w1 r 9 value wide 1 (λ v. clipped v wide narrow to) (value.0 ∷ [])
  unfolding clipped
  clip-unsigned {h} {high} q e f d =
      let h' : high ≡ unsigned_max narrow = omega arith in
      rw (q, ← h') (record { sized = omega (arith, d.sized); made = d.made })

  pub clip-to-unsigned : {h high : ℕ} → to ≡ SignedToUnsigned → h ≡ unsigned_max narrow → words h 0 ≡ high
      → Builds1 w0 k w1 r 9 value wide 1 (λ v. clipped_between v (Const 0 wide) (Const high wide)) (value.0 ∷ [])
      → Builds1 w0 k w1 r 9 value wide 1 (λ v. clipped v wide narrow to) (value.0 ∷ [])
  unfolding clipped
  clip-to-unsigned {h} {high} q e f d =
      let h' : high ≡ unsigned_max narrow = omega arith in
      rw (q, ← h') d

-- ---- a lane of the saturating kinds

-- its exact value, and the bit of the range that it is clamped into
pub saturating : {w0 w1 w2 : List ℕ} {k : ℕ} {r1 r2 : Built} (kind : SaturatingKind) (to : SaturateTo) {a b : Node} (n : ℕ) (signed : Bool) {wide : ℕ}
    → wide ≡ exact_bits kind n
    → kind_to kind ≡ Some to
    → BuildsIf w0 k w1 r1 9 a (kind_bits kind n) (uses_second kind) b (kind_bits kind n) (exact_bits kind n) (λ a b. exact_lane kind a b n signed)
    → Builds1 w1 r1.count w2 r2 9 r1.node wide 1 (λ v. clipped v wide n to) (r1.node.0 ∷ [])
    → BuildsIf w0 k w2 r2 18 a (kind_bits kind n) (uses_second kind) b (kind_bits kind n) 1 (λ a b. saturating_bit kind a b n signed)
unfolding saturating_bit
saturating kind to n signed q p e1 e2 = rw p (then_if (uses_second kind) e1 (rw q at e2))

-- ---- the sums of mixed sign
pub mixed : {w0 w1 w2 : List ℕ} {k : ℕ} {r1 r2 : Built} {d a : Node} (n : ℕ) (signed : Bool) {other : Bool} {to : SaturateTo}
    → other ≡ not signed
    → to ≡ cond signed Signed SignedToUnsigned
    → Builds2 w0 k w1 r1 3 d n a n (n + 2) (λ d a. joined Add d signed a other (n + 2)) (d.0 ∷ a.0 ∷ [])
    → Builds1 w1 r1.count w2 r2 9 r1.node (n + 2) 1 (λ v. clipped v (n + 2) n to) (r1.node.0 ∷ [])
    → Builds2 w0 k w2 r2 12 d n a n 1 (λ d a. mixed_sign_bit signed d a n) (d.0 ∷ a.0 ∷ [])
unfolding mixed_sign_bit
mixed n signed p q e1 e2 = rw (← p, ← q) (then2 e1 e2)
