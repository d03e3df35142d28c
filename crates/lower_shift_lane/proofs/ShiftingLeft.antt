-- What the left shifts of a lane build, from what their calls build. Assumes nothing.
use Prim.Native.Nat.{ℕ, ◌-◌, ◌^◌, ◌≤◌, ◌<◌}
use mathlib.Core.Path.{◌≡◌, refl}
use mathlib.Core.Bool.{Bool, true, false, cond}
use mathlib.Core.List.{List, [], ◌∷◌}
use native.Mathlib.Omega.{arith}
use lib.Pow.{pow_pos, ones_lt, pow-lt}
use Rattle.terms.specs.declared.BinOp.{BinOp}
use Rattle.terms.specs.declared.BinOp.TheVariants.{Shl, AShr, LShr}
use Rattle.terms.specs.declared.CmpOp.TheVariants.{Eq, Slt}
use Rattle.terms.specs.Expr.{Expr, Const, Bv}
use Rattle.pool.specs.declared.Node.{Node}
use Rattle.pool.specs.declared.Built.{Built}
use Rattle.pool_nodes.specs.Builders.{MadeConst, MadeBv, MadeCompare, MadeIte}
use Rattle.pool.proofs.Steps.{start, step, finish, given, spare}
use Rattle.trees.specs.declared.SaturateTo.{SaturateTo}
use Rattle.trees.specs.declared.SaturateTo.TheVariants.{Signed, Unsigned, SignedToUnsigned}
use Rattle.std.specs.declared.option.Option.{Option}
use Rattle.std.specs.declared.option.Option.TheVariants.{None, Some}
use Rattle.trees.specs.Lower.{unsigned_max}
use Rattle.trees.specs.Arith.{shift_bound, saturating_shift_left, left_by}
use Rattle.trees.specs.Trees.{left_immediate}
use Rattle.lower.specs.Builds.{Builds1, Builds2}
use Rattle.lower_shift_lane.proofs.Shifting.{one-op, by-constant}

-- ---- `saturating_shift_left`
pub bound-signed : {w0 w1 w2 w3 w4 w5 : List ℕ} {k : ℕ} {r1 r2 r3 r4 r5 : Built} {value : Node} {p n : ℕ} {signed : Bool}
    → 1 ≤ n
    → n ≤ 64
    → signed ≡ true
    → p ≡ 2 ^ (n - 1)
    → MadeConst w0 k w1 r1 0 0 n
    → MadeCompare w1 r1.count w2 r2 Slt value r1.node
    → MadeConst w2 r2.count w3 r3 p 0 n
    → MadeConst w3 r3.count w4 r4 (p - 1) 0 n
    → MadeIte w4 r4.count w5 r5 r2.node r3.node r4.node
    → Builds1 w0 k w5 r5 5 value n n (λ v. shift_bound v n signed) []
bound-signed {value = value} {n = n} l m q e e1 e2 e3 e4 e5 =
    let power-fits : 2 ^ (n - 1) < 2 ^ n = pow-lt (omega arith) in
    rw q
    (record {
      sized = omega (arith, e1.sized, e2.sized, e3.sized, e4.sized, e5.sized);
      made = λ {ta} v x.
          let s0 = start v (spare value.0 n ta ∷ []) (x, tt) in
          let s1 = step s0 [] (e1.made s0.valid l (omega arith) refl (pow_pos n)) in
          let s2 = step s1 (1 ∷ 0 ∷ []) (e2.made s1.valid l s1.env.1.0 s1.env.0) in
          let s3 = step s2 [] (e3.made s2.valid l (omega arith) (omega arith) power-fits) in
          let s4 = step s3 [] (e4.made {v = 2 ^ (n - 1) - 1} s3.valid l (omega arith) (omega arith) (omega arith)) in
          finish (step s4 (2 ∷ 1 ∷ 0 ∷ []) (e5.made s4.valid l (omega arith) s4.env.1.1.0 s4.env.1.0 s4.env.0)) tt;
    })

pub bound-unsigned : {w0 w1 : List ℕ} {k : ℕ} {r1 : Built} {value : Node} {h n : ℕ} {signed : Bool}
    → 1 ≤ n
    → n ≤ 64
    → signed ≡ false
    → h ≡ unsigned_max n
    → MadeConst w0 k w1 r1 h 0 n
    → Builds1 w0 k w1 r1 5 value n n (λ v. shift_bound v n signed) []
bound-unsigned {value = value} {n = n} l m q e e1 =
    rw q
    (record {
      sized = omega (arith, e1.sized);
      made = λ {ta} v x.
          let s0 = start v (spare value.0 n ta ∷ []) (x, tt) in
          finish (step s0 [] (e1.made s0.valid l (omega arith) (omega arith) (ones_lt n))) tt;
    })

pub saturating : {w0 w1 w2 w3 w4 w5 : List ℕ} {k : ℕ} {r1 r2 r3 r4 r5 : Built} {value amount : Node} {op : BinOp} {n : ℕ} (signed : Bool)
    → 1 ≤ n
    → n ≤ 64
    → op ≡ cond signed AShr LShr
    → MadeBv w0 k w1 r1 Shl value amount
    → MadeBv w1 r1.count w2 r2 op r1.node amount
    → MadeCompare w2 r2.count w3 r3 Eq r2.node value
    → Builds1 w3 r3.count w4 r4 5 value n n (λ v. shift_bound v n signed) []
    → MadeIte w4 r4.count w5 r5 r3.node r1.node r4.node
    → Builds2 w0 k w5 r5 9 value n amount n n (λ v a. saturating_shift_left v a n signed) (value.0 ∷ amount.0 ∷ [])
unfolding saturating_shift_left
saturating {value = value} {amount = amount} {n = n} signed l m f e1 e2 e3 e4 e5 =
    rw (← f)
    (record {
      sized = omega (arith, e1.sized, e2.sized, e3.sized, e4.sized, e5.sized);
      made = λ {ta} {tb} v x y.
          let s0 = start v (given value.0 n ta ∷ given amount.0 n tb ∷ []) (x, (y, tt)) in
          let s1 = step s0 (0 ∷ 1 ∷ []) (e1.made s0.valid l (omega arith) s0.env.0 s0.env.1.0) in
          let s2 = step s1 (0 ∷ 2 ∷ []) (e2.made s1.valid l (omega arith) s1.env.0 s1.env.1.1.0) in
          let s3 = step s2 (0 ∷ 2 ∷ []) (e3.made s2.valid l s2.env.0 s2.env.1.1.0) in
          let s4 = step s3 [] (e4.made s3.valid s3.env.1.1.1.0) in
          finish (step s4 (1 ∷ 3 ∷ 0 ∷ []) (e5.made s4.valid l (omega arith) s4.env.1.0 s4.env.1.1.1.0 s4.env.0)) tt;
    })

-- ---- by an immediate
-- SQSHLU's clamp does not go by the flag
pub left-exact : {w0 w1 : List ℕ} {k : ℕ} {r : Built} {value : Node} {n : ℕ} (shift : ℕ) (signed : Bool) {to : SaturateTo} → to ≡ SignedToUnsigned
    → Builds1 w0 k w1 r 10 value n n (λ v. left_immediate (Some SignedToUnsigned) v shift n true) (value.0 ∷ [])
    → Builds1 w0 k w1 r 10 value n n (λ v. left_immediate (Some to) v shift n signed) (value.0 ∷ [])
left-exact shift signed q d = rw q d

clamps : (to : SaturateTo) → (to ≡ SignedToUnsigned → ⊥) → (v : Expr) (shift n : ℕ) (signed : Bool)
    → left_immediate (Some to) v shift n signed ≡ saturating_shift_left v (Const shift n) n signed
clamps Signed f v shift n signed = refl
clamps Unsigned f v shift n signed = refl
clamps SignedToUnsigned f v shift n signed = absurd (f refl)

pub left-clamped : {w0 w1 w2 : List ℕ} {k : ℕ} {r1 r2 : Built} {value : Node} {n shift : ℕ} (to : SaturateTo) (signed : Bool)
    → (to ≡ SignedToUnsigned → ⊥)
    → 1 ≤ n
    → shift < n
    → n ≤ 64
    → MadeConst w0 k w1 r1 shift 0 n
    → Builds2 w1 r1.count w2 r2 9 value n r1.node n n (λ v a. saturating_shift_left v a n signed) (value.0 ∷ r1.node.0 ∷ [])
    → Builds1 w0 k w2 r2 10 value n n (λ v. left_immediate (Some to) v shift n signed) (value.0 ∷ [])
left-clamped {n = n} {shift = shift} to signed q l h m e1 e2 =
    let d = by-constant (λ v a. saturating_shift_left v a n signed) l (omega arith) m e1 e2 in
    record { sized = d.sized; made = λ {ta} v x. rw (clamps to q ta shift n signed) (d.made v x) }

pub left-wrapping : {w0 w1 w2 : List ℕ} {k : ℕ} {r1 r2 : Built} {value : Node} {n shift : ℕ} {saturate : Option SaturateTo} (signed : Bool)
    → saturate ≡ None
    → 1 ≤ n
    → shift < n
    → n ≤ 64
    → MadeConst w0 k w1 r1 shift 0 n
    → MadeBv w1 r1.count w2 r2 Shl value r1.node
    → Builds1 w0 k w2 r2 10 value n n (λ v. left_immediate saturate v shift n signed) (value.0 ∷ [])
left-wrapping signed q l h m e1 e2 = rw q (by-constant (Bv Shl) l (omega arith) m e1 (one-op {m = 9} (omega arith) l m e2))

pub left-into : {w0 w1 : List ℕ} {k : ℕ} {r : Built} {value : Node} {n : ℕ} (shift : ℕ) (signed : Bool) {to : SaturateTo} {saturate : Option SaturateTo} → saturate ≡ Some to
    → Builds1 w0 k w1 r 10 value n n (λ v. left_immediate (Some to) v shift n signed) (value.0 ∷ [])
    → Builds1 w0 k w1 r 10 value n n (λ v. left_immediate saturate v shift n signed) (value.0 ∷ [])
left-into shift signed q d = rw q d

-- ---- by a register
pub by-saturating : {w0 w1 : List ℕ} {k : ℕ} {r : Built} {value amount : Node} {n : ℕ} (signed : Bool) {saturate : Bool} → saturate ≡ true
    → Builds2 w0 k w1 r 9 value n amount n n (λ v a. saturating_shift_left v a n signed) (value.0 ∷ amount.0 ∷ [])
    → Builds2 w0 k w1 r 9 value n amount n n (λ v a. left_by saturate v a n signed) (value.0 ∷ amount.0 ∷ [])
by-saturating signed q d = rw q d

pub by-wrapping : {w0 w1 : List ℕ} {k : ℕ} {r1 : Built} {value amount : Node} {n : ℕ} {saturate : Bool} (signed : Bool)
    → saturate ≡ false
    → 1 ≤ n
    → n ≤ 64
    → MadeBv w0 k w1 r1 Shl value amount
    → Builds2 w0 k w1 r1 9 value n amount n n (λ v a. left_by saturate v a n signed) (value.0 ∷ amount.0 ∷ [])
by-wrapping signed q l m e1 = rw q (one-op (omega arith) l m e1)
