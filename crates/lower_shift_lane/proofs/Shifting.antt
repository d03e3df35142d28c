-- What the right shifts of a lane, its register shifts, and the choice of a kind build, from what their calls build. Assumes nothing.
use Prim.Native.Nat.{ℕ, ◌+◌, ◌-◌, ◌^◌, ◌≤◌, ◌<◌}
use mathlib.Core.Path.{◌≡◌, refl}
use mathlib.Core.Bool.{Bool, true, false, cond}
use mathlib.Core.List.{List, [], ◌∷◌}
use native.Mathlib.Omega.{arith}
use lib.Pow.{pow_pos}
use Rattle.facts.proofs.Numbers.{small}
use Rattle.terms.specs.declared.BinOp.{BinOp}
use Rattle.terms.specs.declared.BinOp.TheVariants.{Add, Sub, Shl, AShr, LShr}
use Rattle.terms.specs.declared.CmpOp.TheVariants.{Slt}
use Rattle.terms.specs.Expr.{Expr, Const, Bv}
use Rattle.pool.specs.declared.Node.{Node}
use Rattle.pool.specs.declared.Built.{Built}
use Rattle.pool_nodes.specs.Builders.{MadeConst, MadeBv, MadeCompare, MadeIte, MadeExtract, MadeZeroExtend}
use Rattle.pool.proofs.Steps.{start, step, finish, given}
use Rattle.std.specs.declared.option.Option.{Option}
use Rattle.trees.specs.declared.SaturateTo.{SaturateTo}
use Rattle.trees.specs.declared.ShiftKind.{ShiftKind}
use Rattle.trees.specs.declared.ShiftKind.TheVariants.{LeftImmediate, RightImmediate, Register}
use Rattle.trees.specs.Arith.{rounding_bits, left_by, register_shift_max}
use Rattle.trees.specs.Trees.{shift_right, left_immediate, shifted_by}
use Rattle.trees.specs.Arith as Arith
use Rattle.lower.specs.Builds.{Builds1, Builds2, BuildsIf, MadeExtend}
use Rattle.lower_kinds.specs.Sources.{is_register}

-- one operator, if as many as m nodes may be made
pub one-op : {w0 w1 : List ℕ} {k m : ℕ} {r : Built} {value amount : Node} {op : BinOp} {n : ℕ} → 1 ≤ m → 1 ≤ n → n ≤ 64 → MadeBv w0 k w1 r op value amount
    → Builds2 w0 k w1 r m value n amount n n (λ v a. Bv op v a) (value.0 ∷ amount.0 ∷ [])
one-op {value = value} {amount = amount} {n = n} h l m e =
    record {
      sized = omega (arith, e.sized);
      made = λ {ta} {tb} v x y.
          let s0 = start v (given value.0 n ta ∷ given amount.0 n tb ∷ []) (x, (y, tt)) in
          finish (step s0 (0 ∷ 1 ∷ []) (e.made s0.valid l (omega arith) s0.env.0 s0.env.1.0)) tt;
    }

-- a shift by the node of a constant
pub by-constant : {w0 w1 w2 : List ℕ} {k m : ℕ} {r1 r2 : Built} {value : Node} {n shift : ℕ} (t : Expr → Expr → Expr) → 1 ≤ n → shift ≤ n → n ≤ 64
    → MadeConst w0 k w1 r1 shift 0 n
    → Builds2 w1 r1.count w2 r2 m value n r1.node n n t (value.0 ∷ r1.node.0 ∷ [])
    → Builds1 w0 k w2 r2 (m + 1) value n n (λ v. t v (Const shift n)) (value.0 ∷ [])
by-constant {value = value} {n = n} {shift = shift} t l h m e1 e2 =
    record {
      sized = omega (arith, e1.sized, e2.sized);
      made = λ {ta} v x.
          let s0 = start v (given value.0 n ta ∷ []) (x, tt) in
          let s1 = step s0 [] (e1.made s0.valid l (omega arith) (omega arith) (small n shift n (omega arith) (omega arith))) in
          finish (step s1 (1 ∷ 0 ∷ []) (e2.made s1.valid s1.env.1.0 s1.env.0)) tt;
    }

-- ---- `shift_right`
pub rounded-shift : {w0 w1 w2 w3 w4 w5 w6 w7 w8 : List ℕ} {k : ℕ} {r1 r2 r3 r4 r5 r6 r7 r8 : Built} {value amount : Node} {op : BinOp} {n wide : ℕ} {signed : Bool} (most : ℕ)
    → 1 ≤ n
    → wide ≡ rounding_bits n most
    → op ≡ cond signed AShr LShr
    → n + 1 ≤ wide
    → wide ≤ 129
    → MadeZeroExtend w0 k w1 r1 amount wide
    → MadeConst w1 r1.count w2 r2 1 0 wide
    → MadeBv w2 r2.count w3 r3 Sub r1.node r2.node
    → MadeBv w3 r3.count w4 r4 Shl r2.node r3.node
    → MadeExtend w4 r4.count w5 r5 value wide signed
    → MadeBv w5 r5.count w6 r6 Add r5.node r4.node
    → MadeBv w6 r6.count w7 r7 op r6.node r1.node
    → MadeExtract w7 r7.count w8 r8 r7.node (n - 1) 0
    → Builds2 w0 k w8 r8 8 value n amount n n (λ v a. shift_right v a n signed true most) (value.0 ∷ amount.0 ∷ [])
unfolding Arith.shift_right
rounded-shift {value = value} {amount = amount} {n = n} {wide = wide} most l e f a b e1 e2 e3 e4 e5 e6 e7 e8 =
    let w : 1 ≤ wide = omega arith in
    let one-fits : 1 < 2 ^ wide = small 1 1 wide (omega arith) w in
    rw (← e, ← f)
    (record {
      sized = omega (arith, e1.sized, e2.sized, e3.sized, e4.sized, e5.sized, e6.sized, e7.sized, e8.sized);
      made = λ {ta} {tb} v x y.
          let s0 = start v (given value.0 n ta ∷ given amount.0 n tb ∷ []) (x, (y, tt)) in
          let s1 = step s0 (1 ∷ []) (e1.made s0.valid l (omega arith) b s0.env.1.0) in
          let s2 = step s1 [] (e2.made s1.valid w b refl one-fits) in
          let s3 = step s2 (1 ∷ 0 ∷ []) (e3.made s2.valid w b s2.env.1.0 s2.env.0) in
          let s4 = step s3 (1 ∷ 0 ∷ []) (e4.made s3.valid w b s3.env.1.0 s3.env.0) in
          let s5 = step s4 (4 ∷ []) (e5.made s4.valid l (omega arith) b s4.env.1.1.1.1.0) in
          let s6 = step s5 (0 ∷ 1 ∷ []) (e6.made s5.valid w b s5.env.0 s5.env.1.0) in
          let s7 = step s6 (0 ∷ 5 ∷ []) (e7.made s6.valid w b s6.env.0 s6.env.1.1.1.1.1.0) in
          finish (step s7 (0 ∷ []) (e8.made s7.valid (omega arith) (omega arith) s7.env.0)) tt;
    })

pub right-rounding : {w0 w1 : List ℕ} {k : ℕ} {r : Built} {value amount : Node} {n : ℕ} (signed : Bool) {rounding : Bool} (most : ℕ) → rounding ≡ true
    → Builds2 w0 k w1 r 8 value n amount n n (λ v a. shift_right v a n signed true most) (value.0 ∷ amount.0 ∷ [])
    → Builds2 w0 k w1 r 8 value n amount n n (λ v a. shift_right v a n signed rounding most) (value.0 ∷ amount.0 ∷ [])
right-rounding signed most q d = rw q d

pub right-plain : {w0 w1 : List ℕ} {k : ℕ} {r1 : Built} {value amount : Node} {op : BinOp} {n : ℕ} (signed rounding : Bool) (most : ℕ)
    → 1 ≤ n
    → n ≤ 64
    → rounding ≡ false
    → op ≡ cond signed AShr LShr
    → MadeBv w0 k w1 r1 op value amount
    → Builds2 w0 k w1 r1 8 value n amount n n (λ v a. shift_right v a n signed rounding most) (value.0 ∷ amount.0 ∷ [])
unfolding Arith.shift_right
right-plain signed rounding most l m q f e1 = rw (q, ← f) (one-op (omega arith) l m e1)

-- ---- by a register
pub registered : {w0 w1 w2 w3 w4 w5 w6 : List ℕ} {k : ℕ} {r1 r2 r3 r4 r5 r6 : Built} {value amount : Node} {n : ℕ} (rounding saturate signed : Bool)
    → 1 ≤ n
    → n ≤ 64
    → Builds2 w0 k w1 r1 9 value n amount n n (λ v a. left_by saturate v a n signed) (value.0 ∷ amount.0 ∷ [])
    → MadeConst w1 r1.count w2 r2 0 0 n
    → MadeBv w2 r2.count w3 r3 Sub r2.node amount
    → Builds2 w3 r3.count w4 r4 8 value n r3.node n n (λ v a. shift_right v a n signed rounding register_shift_max) (value.0 ∷ r3.node.0 ∷ [])
    → MadeCompare w4 r4.count w5 r5 Slt amount r2.node
    → MadeIte w5 r5.count w6 r6 r5.node r4.node r1.node
    → Builds2 w0 k w6 r6 21 value n amount n n (λ v a. shifted_by (Register rounding saturate) signed v a n) (value.0 ∷ amount.0 ∷ [])
registered {value = value} {amount = amount} {n = n} rounding saturate signed l m e1 e2 e3 e4 e5 e6 =
    record {
      sized = omega (arith, e1.sized, e2.sized, e3.sized, e4.sized, e5.sized, e6.sized);
      made = λ {ta} {tb} v x y.
          let s0 = start v (given value.0 n ta ∷ given amount.0 n tb ∷ []) (x, (y, tt)) in
          let s1 = step s0 (0 ∷ 1 ∷ []) (e1.made s0.valid s0.env.0 s0.env.1.0) in
          let s2 = step s1 [] (e2.made s1.valid l (omega arith) refl (pow_pos n)) in
          let s3 = step s2 (0 ∷ 3 ∷ []) (e3.made s2.valid l (omega arith) s2.env.0 s2.env.1.1.1.0) in
          let s4 = step s3 (3 ∷ 0 ∷ []) (e4.made s3.valid s3.env.1.1.1.0 s3.env.0) in
          let s5 = step s4 (5 ∷ 2 ∷ []) (e5.made s4.valid l s4.env.1.1.1.1.1.0 s4.env.1.1.0) in
          finish (step s5 (0 ∷ 1 ∷ 4 ∷ []) (e6.made s5.valid l (omega arith) s5.env.0 s5.env.1.0 s5.env.1.1.1.1.0)) tt;
    }

-- ---- `shift_lane`, by its kinds
pub lane-left : {w0 w1 : List ℕ} {k : ℕ} {r : Built} {kind : ShiftKind} {value amount : Node} {n shift : ℕ} {saturate : Option SaturateTo} (signed : Bool) → kind ≡ LeftImmediate shift saturate
    → Builds1 w0 k w1 r 10 value n n (λ v. left_immediate saturate v shift n signed) (value.0 ∷ [])
    → BuildsIf w0 k w1 r 21 value n (is_register kind) amount n n (λ v a. shifted_by kind signed v a n)
lane-left signed q d = rw q (record { sized = omega (arith, d.sized); made = λ v x y. d.made v x })

pub lane-register : {w0 w1 : List ℕ} {k : ℕ} {r : Built} {kind : ShiftKind} {value amount : Node} {n : ℕ} {rounding saturate : Bool} (signed : Bool) → kind ≡ Register rounding saturate
    → Builds2 w0 k w1 r 21 value n amount n n (λ v a. shifted_by (Register rounding saturate) signed v a n) (value.0 ∷ amount.0 ∷ [])
    → BuildsIf w0 k w1 r 21 value n (is_register kind) amount n n (λ v a. shifted_by kind signed v a n)
lane-register signed q d = rw q (record { sized = d.sized; made = λ v x y. d.made v x (y refl) })

pub lane-right : {w0 w1 w2 : List ℕ} {k : ℕ} {r1 r2 : Built} {kind : ShiftKind} {value amount : Node} {n shift : ℕ} {rounding : Bool} (signed : Bool)
    → kind ≡ RightImmediate shift rounding
    → 1 ≤ n
    → shift ≤ n
    → n ≤ 64
    → MadeConst w0 k w1 r1 shift 0 n
    → Builds2 w1 r1.count w2 r2 8 value n r1.node n n (λ v a. shift_right v a n signed rounding shift) (value.0 ∷ r1.node.0 ∷ [])
    → BuildsIf w0 k w2 r2 21 value n (is_register kind) amount n n (λ v a. shifted_by kind signed v a n)
lane-right {n = n} {shift = shift} {rounding = rounding} signed q l h m e1 e2 =
    let d = by-constant (λ v a. shift_right v a n signed rounding shift) l h m e1 e2 in
    rw q (record { sized = omega (arith, d.sized); made = λ v x y. d.made v x })
