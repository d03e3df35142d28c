-- The exact values of one lane, from what their calls build. Assumes nothing.
use Prim.Native.Nat.{ℕ, ◌+◌, ◌-◌, ◌*◌, ◌^◌, ◌≤◌, ◌<◌}
use mathlib.Core.Path.{◌≡◌, refl}
use mathlib.Core.Bool.{Bool, true, false, cond, false≢true}
use mathlib.Core.List.{List, [], ◌∷◌}
use native.Mathlib.Omega.{arith}
use lib.Pow.{pow_pos}
use Rattle.facts.proofs.Numbers.{small}
use Rattle.terms.specs.declared.BinOp.{BinOp}
use Rattle.terms.specs.declared.BinOp.TheVariants.{Sub, Mul, Shl, AShr, LShr}
use Rattle.terms.specs.declared.CmpOp.TheVariants.{Slt}
use Rattle.terms.specs.Expr.{Expr, Const}
use Rattle.pool.specs.declared.Node.{Node}
use Rattle.pool.specs.declared.Built.{Built}
use Rattle.pool_nodes.specs.Builders.{MadeConst, MadeBv, MadeCompare, MadeIte, MadeSignExtend}
use Rattle.pool.proofs.Steps.{start, step, finish, stay, given}
use Rattle.trees.specs.declared.SaturateTo.{SaturateTo}
use Rattle.std.specs.declared.option.Option.{Option}
use Rattle.trees.specs.declared.SaturatingKind.{SaturatingKind}
use Rattle.trees.specs.declared.SaturatingKind.TheVariants.{AddSub, Halving, Narrow, ShiftNarrow, DoublingMultiplyHigh, Unary}
use Rattle.trees.specs.Arith.{plus_if, negated, kind_bits, joined, twice, shifted, scaled, exact_lane, exact_bits}
use Rattle.lower.specs.Builds.{Builds1, Builds2, BuildsIf, MadeExtend}
use Rattle.lower_kinds.specs.Sources.{uses_second, KindIn}

-- ---- one builder on another's answer
pub then1 : {w0 w1 w2 : List ℕ} {k m1 m2 : ℕ} {r1 r2 : Built} {a : Node} {wa u w : ℕ} {f g : Expr → Expr}
    → Builds1 w0 k w1 r1 m1 a wa u f (a.0 ∷ [])
    → Builds1 w1 r1.count w2 r2 m2 r1.node u w g (r1.node.0 ∷ [])
    → Builds1 w0 k w2 r2 (m1 + m2) a wa w (λ t. g (f t)) (a.0 ∷ [])
then1 {a = a} {wa = wa} e1 e2 =
    record {
      sized = omega (arith, e1.sized, e2.sized);
      made = λ {ta} v x.
          let s0 = start v (given a.0 wa ta ∷ []) (x, tt) in
          let s1 = step s0 (0 ∷ []) (e1.made s0.valid s0.env.0) in
          finish (step s1 (0 ∷ []) (e2.made s1.valid s1.env.0)) tt;
    }

pub then2 : {w0 w1 w2 : List ℕ} {k m1 m2 : ℕ} {r1 r2 : Built} {a b : Node} {wa wb u w : ℕ} {f : Expr → Expr → Expr} {g : Expr → Expr}
    → Builds2 w0 k w1 r1 m1 a wa b wb u f (a.0 ∷ b.0 ∷ [])
    → Builds1 w1 r1.count w2 r2 m2 r1.node u w g (r1.node.0 ∷ [])
    → Builds2 w0 k w2 r2 (m1 + m2) a wa b wb w (λ t s. g (f t s)) (a.0 ∷ b.0 ∷ [])
then2 {a = a} {b = b} {wa = wa} {wb = wb} e1 e2 =
    record {
      sized = omega (arith, e1.sized, e2.sized);
      made = λ {ta} {tb} v x y.
          let s0 = start v (given a.0 wa ta ∷ given b.0 wb tb ∷ []) (x, (y, tt)) in
          let s1 = step s0 (0 ∷ 1 ∷ []) (e1.made s0.valid s0.env.0 s0.env.1.0) in
          finish (step s1 (0 ∷ []) (e2.made s1.valid s1.env.0)) tt;
    }

pub then_if : {w0 w1 w2 : List ℕ} {k m1 m2 : ℕ} {r1 r2 : Built} {a b : Node} {wa wb u w : ℕ} (used : Bool) {f : Expr → Expr → Expr} {g : Expr → Expr}
    → BuildsIf w0 k w1 r1 m1 a wa used b wb u f
    → Builds1 w1 r1.count w2 r2 m2 r1.node u w g (r1.node.0 ∷ [])
    → BuildsIf w0 k w2 r2 (m1 + m2) a wa used b wb w (λ t s. g (f t s))
then_if {a = a} {b = b} {wa = wa} {wb = wb} true e1 e2 =
    record {
      sized = omega (arith, e1.sized, e2.sized);
      made = λ {ta} {tb} v x y.
          let s0 = start v (given a.0 wa ta ∷ given b.0 wb tb ∷ []) (x, (y refl, tt)) in
          let s1 = step s0 (0 ∷ 1 ∷ []) (e1.made s0.valid s0.env.0 (λ c. s0.env.1.0)) in
          finish (step s1 (0 ∷ []) (e2.made s1.valid s1.env.0)) tt;
    }
then_if {a = a} {wa = wa} false e1 e2 =
    record {
      sized = omega (arith, e1.sized, e2.sized);
      made = λ {ta} {tb} v x y.
          let s0 = start v (given a.0 wa ta ∷ []) (x, tt) in
          let s1 = step s0 (0 ∷ []) (e1.made {tb = tb} s0.valid s0.env.0 (λ c. absurd (false≢true c))) in
          finish (step s1 (0 ∷ []) (e2.made s1.valid s1.env.0)) tt;
    }

-- what is built by one name of a tree is built by another
pub same-tree : {w0 w1 : List ℕ} {k m : ℕ} {r : Built} {a b : Node} {wa wb w : ℕ} {used : Bool} {f g : Expr → Expr → Expr} → ((t s : Expr) → g t s ≡ f t s)
    → BuildsIf w0 k w1 r m a wa used b wb w f → BuildsIf w0 k w1 r m a wa used b wb w g
same-tree h e = record { sized = e.sized; made = λ {ta} {tb} v x y. rw (h ta tb) (e.made v x y) }

pub join : {w0 w1 w2 w3 : List ℕ} {k : ℕ} {r1 r2 r3 : Built} {a b : Node} {op : BinOp} {sa sb : Bool} {n wide : ℕ}
    → 1 ≤ n
    → n ≤ wide
    → wide ≤ 129
    → MadeExtend w0 k w1 r1 a wide sa
    → MadeExtend w1 r1.count w2 r2 b wide sb
    → MadeBv w2 r2.count w3 r3 op r1.node r2.node
    → Builds2 w0 k w3 r3 3 a n b n wide (λ a b. joined op a sa b sb wide) (a.0 ∷ b.0 ∷ [])
join {a = a} {b = b} {n = n} l h m e1 e2 e3 =
    record {
      sized = omega (arith, e1.sized, e2.sized, e3.sized);
      made = λ {ta} {tb} v x y.
          let s0 = start v (given a.0 n ta ∷ given b.0 n tb ∷ []) (x, (y, tt)) in
          let s1 = step s0 (0 ∷ []) (e1.made s0.valid l h m s0.env.0) in
          let s2 = step s1 (2 ∷ []) (e2.made s1.valid l h m s1.env.1.1.0) in
          finish (step s2 (1 ∷ 0 ∷ []) (e3.made s2.valid (omega arith) m s2.env.1.0 s2.env.0)) tt;
    }

-- a constant to the right of a value
over : {w0 w1 w2 : List ℕ} {k : ℕ} {r1 r2 : Built} {value : Node} {op : BinOp} {c wide : ℕ}
    → 1 ≤ wide
    → wide ≤ 129
    → c < 2 ^ wide
    → MadeConst w0 k w1 r1 c 0 wide
    → MadeBv w1 r1.count w2 r2 op value r1.node
    → Builds1 w0 k w2 r2 2 value wide wide (λ v. Rattle.terms.specs.Expr.Bv op v (Const c wide)) (value.0 ∷ [])
over {value = value} {wide = wide} l m h e1 e2 =
    record {
      sized = omega (arith, e1.sized, e2.sized);
      made = λ {ta} v x.
          let s0 = start v (given value.0 wide ta ∷ []) (x, tt) in
          let s1 = step s0 [] (e1.made s0.valid l m (omega arith) h) in
          finish (step s1 (1 ∷ 0 ∷ []) (e2.made s1.valid l m s1.env.1.0 s1.env.0)) tt;
    }

pub double : {w0 w1 w2 w3 : List ℕ} {k : ℕ} {r1 r2 r3 : Built} {a b : Node} {n wide : ℕ}
    → 1 ≤ wide
    → wide ≤ 129
    → Builds2 w0 k w1 r1 3 a n b n wide (λ a b. joined Mul a true b true wide) (a.0 ∷ b.0 ∷ [])
    → MadeConst w1 r1.count w2 r2 1 0 wide
    → MadeBv w2 r2.count w3 r3 Shl r1.node r2.node
    → Builds2 w0 k w3 r3 5 a n b n wide (λ a b. twice a b wide) (a.0 ∷ b.0 ∷ [])
double {wide = wide} l m e1 e2 e3 = then2 e1 (over l m (small 1 1 wide (omega arith) l) e2 e3)

pub down : {w0 w1 w2 w3 : List ℕ} {k : ℕ} {r1 r2 r3 : Built} {value : Node} {op : BinOp} (signed rounding : Bool) (half shift wide : ℕ)
    → 1 ≤ wide
    → wide ≤ 129
    → shift < 2 ^ wide
    → op ≡ cond signed AShr LShr
    → Builds1 w0 k w1 r1 2 value wide wide (λ v. plus_if rounding v (Const half wide)) (value.0 ∷ [])
    → MadeConst w1 r1.count w2 r2 shift 0 wide
    → MadeBv w2 r2.count w3 r3 op r1.node r2.node
    → Builds1 w0 k w3 r3 4 value wide wide (λ v. shifted signed rounding v half shift wide) (value.0 ∷ [])
down signed rounding half shift wide l m h f e1 e2 e3 = rw (← f) (then1 e1 (over l m h e2 e3))

pub up : {w0 w1 w2 w3 : List ℕ} {k : ℕ} {r1 r2 r3 : Built} {value : Node} (shift n wide : ℕ)
    → shift < n
    → n ≤ wide
    → wide ≤ 129
    → MadeSignExtend w0 k w1 r1 value wide
    → MadeConst w1 r1.count w2 r2 shift 0 wide
    → MadeBv w2 r2.count w3 r3 Shl r1.node r2.node
    → Builds1 w0 k w3 r3 3 value n wide (λ v. scaled v shift wide) (value.0 ∷ [])
up shift n wide l h m e1 e2 e3 =
    then1 (record { sized = e1.sized; made = λ v x. e1.made v (omega arith) h m x }) (over (omega arith) m (small n shift wide (omega arith) h) e2 e3)

extended : {w0 w1 : List ℕ} {k : ℕ} {r : Built} {a : Node} {n wide : ℕ} {signed : Bool} → 1 ≤ n → n ≤ wide → wide ≤ 129
    → MadeExtend w0 k w1 r a wide signed
    → Builds1 w0 k w1 r 1 a n wide (λ a. Rattle.trees.specs.Lower.extend a wide signed) (a.0 ∷ [])
extended l h m e = record { sized = e.sized; made = λ v x. e.made v l h m x }

pub narrow : {w0 w1 w2 : List ℕ} {k : ℕ} {r1 r2 : Built} {a : Node} {half : ℕ} (shift n : ℕ) (signed rounding : Bool) (to : Option SaturateTo)
    → 1 ≤ n
    → n ≤ 32
    → half ≡ 2 ^ (shift - 1)
    → MadeExtend w0 k w1 r1 a (n * 2 + 1) signed
    → Builds1 w1 r1.count w2 r2 4 r1.node (n * 2 + 1) (n * 2 + 1) (λ v. shifted signed rounding v half shift (n * 2 + 1)) (r1.node.0 ∷ [])
    → Builds1 w0 k w2 r2 5 a (n * 2) (n * 2 + 1) (λ a. exact_lane (ShiftNarrow shift rounding to) a a n signed) (a.0 ∷ [])
narrow shift n signed rounding to l m p e1 e2 = rw (← p) (then1 (extended (omega arith) (omega arith) (omega arith) e1) e2)

pub high : {w0 w1 w2 : List ℕ} {k : ℕ} {r1 r2 : Built} {a b : Node} {half : ℕ} (n : ℕ) (rounding : Bool)
    → half ≡ 2 ^ (n - 1)
    → Builds2 w0 k w1 r1 5 a n b n (n * 2 + 1) (λ a b. twice a b (n * 2 + 1)) (a.0 ∷ b.0 ∷ [])
    → Builds1 w1 r1.count w2 r2 4 r1.node (n * 2 + 1) (n * 2 + 1) (λ v. shifted true rounding v half n (n * 2 + 1)) (r1.node.0 ∷ [])
    → Builds2 w0 k w2 r2 9 a n b n (n * 2 + 1) (λ a b. exact_lane (DoublingMultiplyHigh rounding) a b n true) (a.0 ∷ b.0 ∷ [])
high n rounding p e1 e2 = rw (← p) (then2 e1 e2)

-- ---- the opposite, and the absolute value
pub opposite : {w0 w1 w2 : List ℕ} {k : ℕ} {r1 r2 : Built} {value : Node} {negate : Bool} {wide : ℕ}
    → 1 ≤ wide
    → wide ≤ 129
    → negate ≡ true
    → MadeConst w0 k w1 r1 0 0 wide
    → MadeBv w1 r1.count w2 r2 Sub r1.node value
    → Builds1 w0 k w2 r2 4 value wide wide (λ v. negated negate v wide) (value.0 ∷ [])
opposite {value = value} {wide = wide} l m q e1 e2 =
    rw q
    (record {
      sized = omega (arith, e1.sized, e2.sized);
      made = λ {ta} v x.
          let s0 = start v (given value.0 wide ta ∷ []) (x, tt) in
          let s1 = step s0 [] (e1.made s0.valid l m refl (pow_pos wide)) in
          finish (step s1 (0 ∷ 1 ∷ []) (e2.made s1.valid l m s1.env.0 s1.env.1.0)) tt;
    })

pub absolute : {w0 w1 w2 w3 w4 : List ℕ} {k : ℕ} {r1 r2 r3 r4 : Built} {value : Node} {negate : Bool} {wide : ℕ}
    → 1 ≤ wide
    → wide ≤ 129
    → negate ≡ false
    → MadeConst w0 k w1 r1 0 0 wide
    → MadeBv w1 r1.count w2 r2 Sub r1.node value
    → MadeCompare w2 r2.count w3 r3 Slt value r1.node
    → MadeIte w3 r3.count w4 r4 r3.node r2.node value
    → Builds1 w0 k w4 r4 4 value wide wide (λ v. negated negate v wide) (value.0 ∷ [])
absolute {value = value} {wide = wide} l m q e1 e2 e3 e4 =
    rw q
    (record {
      sized = omega (arith, e1.sized, e2.sized, e3.sized, e4.sized);
      made = λ {ta} v x.
          let s0 = start v (given value.0 wide ta ∷ []) (x, tt) in
          let s1 = step s0 [] (e1.made s0.valid l m refl (pow_pos wide)) in
          let s2 = step s1 (0 ∷ 1 ∷ []) (e2.made s1.valid l m s1.env.0 s1.env.1.0) in
          let s3 = step s2 (2 ∷ 1 ∷ []) (e3.made s2.valid l s2.env.1.1.0 s2.env.1.0) in
          finish (step s3 (0 ∷ 1 ∷ 3 ∷ []) (e4.made s3.valid l m s3.env.0 s3.env.1.0 s3.env.1.1.1.0)) tt;
    })

pub unary : {w0 w1 w2 : List ℕ} {k : ℕ} {r1 r2 : Built} {a : Node} {n : ℕ} (negate : Bool)
    → 1 ≤ n
    → n ≤ 64
    → MadeExtend w0 k w1 r1 a (n + 1) true
    → Builds1 w1 r1.count w2 r2 4 r1.node (n + 1) (n + 1) (λ v. negated negate v (n + 1)) (r1.node.0 ∷ [])
    → Builds1 w0 k w2 r2 5 a n (n + 1) (λ a. exact_lane (Unary negate) a a n true) (a.0 ∷ [])
unary negate l m e1 e2 = then1 (extended l (omega arith) (omega arith) e1) e2

-- ---- each kind

-- a lane has 64 bits at most; its exact value has as many bits or more, and 128 at most
pub record ExactFits (kind : SaturatingKind) (n : ℕ) : Type 0 where
  pub lane : n ≤ 64
  pub least : n ≤ exact_bits kind n
  pub most : exact_bits kind n ≤ 128

pub exact-fits : (kind : SaturatingKind) (n : ℕ) → KindIn kind n → ExactFits kind n
exact-fits (AddSub op to) n h = record { lane = omega arith; least = omega arith; most = omega arith }
exact-fits (Halving rounding) n h = record { lane = omega arith; least = omega arith; most = omega arith }
exact-fits (Narrow to) n h = record { lane = omega arith; least = omega arith; most = omega arith }
exact-fits (ShiftNarrow shift rounding to) n h = record { lane = omega (arith, h.0); least = omega arith; most = omega (arith, h.0) }
exact-fits (Unary negate) n h = record { lane = omega arith; least = omega arith; most = omega arith }
exact-fits (DoublingMultiplyHigh rounding) n h = record { lane = omega arith; least = omega arith; most = omega arith }

abbrev pub Exact : (w0 : List ℕ) (k : ℕ) (w1 : List ℕ) (r : Built) (kind : SaturatingKind) (a b : Node) (n : ℕ) (signed : Bool) → Type 0
Exact w0 k w1 r kind a b n signed =
    BuildsIf w0 k w1 r 9 a (kind_bits kind n) (uses_second kind) b (kind_bits kind n) (exact_bits kind n) (λ a b. exact_lane kind a b n signed)

module _ {w0 w1 : List ℕ} {k : ℕ} {r : Built} {kind : SaturatingKind} {a b : Node} (n : ℕ) (signed : Bool) where
  pub is-add-sub : {op : BinOp} {to : SaturateTo} → kind ≡ AddSub op to
      → Builds2 w0 k w1 r 3 a n b n (n + 1) (λ a b. joined op a signed b signed (n + 1)) (a.0 ∷ b.0 ∷ []) → Exact w0 k w1 r kind a b n signed
  is-add-sub q e = rw q (record { sized = omega (arith, e.sized); made = λ v x y. e.made v x (y refl) })

  pub is-halving : {rounding : Bool} → kind ≡ Halving rounding
      → Builds2 w0 k w1 r 7 a n b n (n + 1) (λ a b. exact_lane (Halving rounding) a b n signed) (a.0 ∷ b.0 ∷ []) → Exact w0 k w1 r kind a b n signed
  is-halving q e = rw q (record { sized = omega (arith, e.sized); made = λ v x y. e.made v x (y refl) })

  pub is-shift-narrow : {shift : ℕ} {rounding : Bool} {to : Option SaturateTo} → kind ≡ ShiftNarrow shift rounding to
      → Builds1 w0 k w1 r 5 a (n * 2) (n * 2 + 1) (λ a. exact_lane (ShiftNarrow shift rounding to) a a n signed) (a.0 ∷ []) → Exact w0 k w1 r kind a b n signed
  is-shift-narrow q e = rw q (record { sized = omega (arith, e.sized); made = λ v x y. e.made v x })

  pub is-multiply-high : {rounding : Bool} → kind ≡ DoublingMultiplyHigh rounding
      → Builds2 w0 k w1 r 9 a n b n (n * 2 + 1) (λ a b. exact_lane (DoublingMultiplyHigh rounding) a b n true) (a.0 ∷ b.0 ∷ []) → Exact w0 k w1 r kind a b n signed
  is-multiply-high q e = rw q (record { sized = omega (arith, e.sized); made = λ v x y. e.made v x (y refl) })

  pub is-unary : {negate : Bool} → kind ≡ Unary negate
      → Builds1 w0 k w1 r 5 a n (n + 1) (λ a. exact_lane (Unary negate) a a n true) (a.0 ∷ []) → Exact w0 k w1 r kind a b n signed
  is-unary q e = rw q (record { sized = omega (arith, e.sized); made = λ v x y. e.made v x })

pub is-narrow : {ws : List ℕ} {k : ℕ} {r : Built} {kind : SaturatingKind} {a b : Node} (n : ℕ) (signed : Bool) {to : SaturateTo} → kind ≡ Narrow to
    → a.0 < k → r.node.0 ≡ a.0 → r.count ≡ k
    → Exact ws k ws r kind a b n signed
is-narrow n signed q l e f = rw q (record { sized = omega (arith, l, e, f); made = λ v x y. rw (e, f) (stay v x) })
