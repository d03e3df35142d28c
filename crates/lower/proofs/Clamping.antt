-- What `clamp` and its parts build, from what their calls build. Assumes nothing.
use Prim.Native.Nat.{ℕ, ◌-◌, ◌^◌, ◌≤◌, ◌<◌}
use mathlib.Core.Path.{◌≡◌, refl}
use mathlib.Core.Bool.{Bool, true, false}
use mathlib.Core.List.{List, [], ◌∷◌}
use native.Mathlib.Omega.{arith}
use native.Mathlib.Nat.{lt_of_lt_of_le}
use lib.Pow.{ones_lt, pow_mono, pow-sub-lt, pow_pos}
use Rattle.terms.specs.declared.BinOp.TheVariants.{Add}
use Rattle.terms.specs.declared.CmpOp.TheVariants.{Ult, Slt}
use Rattle.terms.specs.Expr.{Const}
use Rattle.pool.specs.declared.Node.{Node}
use Rattle.pool.specs.declared.Built.{Built}
use Rattle.pool.specs.Node.{wide as words}
use Rattle.pool_nodes.specs.Builders.{MadeConst, MadeBv, MadeCompare, MadeIte, MadeExtract, MadeZeroExtend, MadeSignExtend}
use Rattle.pool.proofs.Steps.{start, step, finish, stay, given}
use Rattle.trees.specs.declared.SaturateTo.{SaturateTo}
use Rattle.trees.specs.declared.SaturateTo.TheVariants.{Signed, Unsigned, SignedToUnsigned}
use Rattle.trees.specs.Simd.{extract_collapsing}
use Rattle.trees.specs.Lower.{unsigned_max}
use Rattle.trees.specs.Arith.{clamp_between, clamp_below, plus_if}
use Rattle.trees.specs.Trees.{clamp}
use Rattle.trees.specs.Arith as Arith
use Rattle.lower.specs.Builds.{Builds1, MadeExtend}

pub between : {w0 w1 w2 w3 w4 w5 w6 w7 : List ℕ} {k : ℕ} {r1 r2 r3 r4 r5 r6 r7 : Built} {value : Node} {ll lh hl hh wide narrow : ℕ}
    → 1 ≤ narrow → narrow ≤ wide → wide ≤ 128 → words ll lh < 2 ^ wide → words hl hh < 2 ^ wide
    → MadeConst w0 k w1 r1 hl hh wide
    → MadeCompare w1 r1.count w2 r2 Slt r1.node value
    → MadeIte w2 r2.count w3 r3 r2.node r1.node value
    → MadeConst w3 r3.count w4 r4 ll lh wide
    → MadeCompare w4 r4.count w5 r5 Slt value r4.node
    → MadeIte w5 r5.count w6 r6 r5.node r4.node r3.node
    → MadeExtract w6 r6.count w7 r7 r6.node (narrow - 1) 0
    → Builds1 w0 k w7 r7 7 value wide narrow (λ v. extract_collapsing (clamp_between v (Const (words ll lh) wide) (Const (words hl hh) wide)) (narrow - 1) 0) (value.0 ∷ [])
between {value = value} {wide = wide} b c d lo hi e1 e2 e3 e4 e5 e6 e7 =
    let l : 1 ≤ wide = omega arith in
    let m : wide ≤ 129 = omega arith in
    record {
      sized = omega (arith, e1.sized, e2.sized, e3.sized, e4.sized, e5.sized, e6.sized, e7.sized);
      made = λ {ta} v x.
          let s0 = start v (given value.0 wide ta ∷ []) (x, tt) in
          let s1 = step s0 [] (e1.made s0.valid l m refl hi) in
          let s2 = step s1 (0 ∷ 1 ∷ []) (e2.made s1.valid l s1.env.0 s1.env.1.0) in
          let s3 = step s2 (0 ∷ 1 ∷ 2 ∷ []) (e3.made s2.valid l m s2.env.0 s2.env.1.0 s2.env.1.1.0) in
          let s4 = step s3 [] (e4.made s3.valid l m refl lo) in
          let s5 = step s4 (4 ∷ 0 ∷ []) (e5.made s4.valid l s4.env.1.1.1.1.0 s4.env.0) in
          let s6 = step s5 (0 ∷ 1 ∷ 2 ∷ []) (e6.made s5.valid l m s5.env.0 s5.env.1.0 s5.env.1.1.0) in
          finish (step s6 (0 ∷ []) (e7.made s6.valid (omega arith) (omega arith) s6.env.0)) tt;
    }

pub below : {w0 w1 w2 w3 w4 : List ℕ} {k : ℕ} {r1 r2 r3 r4 : Built} {value : Node} {high wide narrow : ℕ}
    → 1 ≤ narrow → narrow ≤ wide → wide ≤ 128 → high < 2 ^ wide
    → MadeConst w0 k w1 r1 high 0 wide
    → MadeCompare w1 r1.count w2 r2 Ult r1.node value
    → MadeIte w2 r2.count w3 r3 r2.node r1.node value
    → MadeExtract w3 r3.count w4 r4 r3.node (narrow - 1) 0
    → Builds1 w0 k w4 r4 4 value wide narrow (λ v. extract_collapsing (clamp_below v (Const high wide)) (narrow - 1) 0) (value.0 ∷ [])
below {value = value} {wide = wide} b c d hi e1 e2 e3 e4 =
    let l : 1 ≤ wide = omega arith in
    let m : wide ≤ 129 = omega arith in
    record {
      sized = omega (arith, e1.sized, e2.sized, e3.sized, e4.sized);
      made = λ {ta} v x.
          let s0 = start v (given value.0 wide ta ∷ []) (x, tt) in
          let s1 = step s0 [] (e1.made s0.valid l m (omega arith) hi) in
          let s2 = step s1 (0 ∷ 1 ∷ []) (e2.made s1.valid l s1.env.0 s1.env.1.0) in
          let s3 = step s2 (0 ∷ 1 ∷ 2 ∷ []) (e3.made s2.valid l m s2.env.0 s2.env.1.0 s2.env.1.1.0) in
          finish (step s3 (0 ∷ []) (e4.made s3.valid (omega arith) (omega arith) s3.env.0)) tt;
    }

-- the bounds fit their width
pub low_fits : (wide b : ℕ) → 2 ^ wide - 2 ^ b < 2 ^ wide
low_fits wide b = pow-sub-lt wide (pow_pos b)

pub high_fits : (wide b : ℕ) → b ≤ wide → unsigned_max b < 2 ^ wide
high_fits wide b h = lt_of_lt_of_le (ones_lt b) (pow_mono h)

module _ {w0 w1 : List ℕ} {k : ℕ} {r : Built} {value : Node} {wide narrow : ℕ} {to : SaturateTo} where
  pub clamp-signed : {p low high : ℕ} → to ≡ Signed → p ≡ 2 ^ (narrow - 1) → low ≡ 2 ^ wide - 2 ^ (narrow - 1) → words (p - 1) 0 ≡ high
      → Builds1 w0 k w1 r 7 value wide narrow (λ v. extract_collapsing (clamp_between v (Const low wide) (Const high wide)) (narrow - 1) 0) (value.0 ∷ [])
      → Builds1 w0 k w1 r 7 value wide narrow (λ v. clamp v wide narrow to) (value.0 ∷ [])
  unfolding Arith.clamp
  clamp-signed {p} {low} {high} q e f g d =
      let h : high ≡ 2 ^ (narrow - 1) - 1 = omega arith in
      rw (q, ← f, ← h) d

  pub clamp-unsigned : {h : ℕ} → to ≡ Unsigned → h ≡ unsigned_max narrow
      → Builds1 w0 k w1 r 4 value wide narrow (λ v. extract_collapsing (clamp_below v (Const h wide)) (narrow - 1) 0) (value.0 ∷ [])
      → Builds1 w0 k w1 r 7 value wide narrow (λ v. clamp v wide narrow to) (value.0 ∷ [])
  unfolding Arith.clamp
  clamp-unsigned q e d = rw (q, ← e) (record { sized = omega (arith, d.sized); made = d.made })

  pub clamp-to-unsigned : {h high : ℕ} → to ≡ SignedToUnsigned → h ≡ unsigned_max narrow → words h 0 ≡ high
      → Builds1 w0 k w1 r 7 value wide narrow (λ v. extract_collapsing (clamp_between v (Const 0 wide) (Const high wide)) (narrow - 1) 0) (value.0 ∷ [])
      → Builds1 w0 k w1 r 7 value wide narrow (λ v. clamp v wide narrow to) (value.0 ∷ [])
  unfolding Arith.clamp
  clamp-to-unsigned {h} {high} q e f d =
      let h' : high ≡ unsigned_max narrow = omega arith in
      rw (q, ← h') d

-- ---- `extend`
pub extend-signed : {w0 w1 : List ℕ} {k : ℕ} {r : Built} {value : Node} {to : ℕ} {signed : Bool} → signed ≡ true → MadeSignExtend w0 k w1 r value to
    → MadeExtend w0 k w1 r value to signed
extend-signed q d = rw q (record { sized = d.sized; made = d.made })

pub extend-unsigned : {w0 w1 : List ℕ} {k : ℕ} {r : Built} {value : Node} {to : ℕ} {signed : Bool} → signed ≡ false → MadeZeroExtend w0 k w1 r value to
    → MadeExtend w0 k w1 r value to signed
extend-unsigned q d = rw q (record { sized = d.sized; made = d.made })

-- ---- a constant added if rounding asks it
pub plus-yes : {w0 w1 w2 : List ℕ} {k : ℕ} {r1 r2 : Built} {value : Node} {c wide : ℕ} {rounding : Bool} → 1 ≤ wide → wide ≤ 129 → c < 2 ^ wide → rounding ≡ true
    → MadeConst w0 k w1 r1 c 0 wide
    → MadeBv w1 r1.count w2 r2 Add value r1.node
    → Builds1 w0 k w2 r2 2 value wide wide (λ v. plus_if rounding v (Const c wide)) (value.0 ∷ [])
plus-yes {value = value} {wide = wide} l m h q e1 e2 =
    rw q
    (record {
      sized = omega (arith, e1.sized, e2.sized);
      made = λ {ta} v x.
          let s0 = start v (given value.0 wide ta ∷ []) (x, tt) in
          let s1 = step s0 [] (e1.made s0.valid l m (omega arith) h) in
          finish (step s1 (1 ∷ 0 ∷ []) (e2.made s1.valid l m s1.env.1.0 s1.env.0)) tt;
    })

pub plus-no : {ws : List ℕ} {k : ℕ} {r : Built} {value : Node} (c wide : ℕ) {rounding : Bool} → rounding ≡ false → value.0 < k → r.node.0 ≡ value.0 → r.count ≡ k
    → Builds1 ws k ws r 2 value wide wide (λ v. plus_if rounding v (Const c wide)) (value.0 ∷ [])
plus-no c wide q b e f =
    rw q (record { sized = record { long = refl; more = omega arith; most = omega arith; under = omega arith }; made = λ v x. rw (e, f) (stay v x) })
