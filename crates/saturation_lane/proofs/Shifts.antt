-- The bits of the shifts, from what their calls build. Assumes nothing.
use Prim.Native.Nat.{ℕ, ◌^◌, ◌≤◌, ◌<◌}
use mathlib.Core.Path.{◌≡◌, refl, sym, ap, ◌∙◌}
use mathlib.Core.Bool.{Bool, true, cond, false≢true}
use mathlib.Core.List.{List, [], ◌∷◌}
use native.Mathlib.Omega.{arith}
use lib.Pow.{pow_pos}
use Rattle.facts.proofs.Numbers.{small}
use Rattle.terms.specs.declared.BinOp.{BinOp}
use Rattle.terms.specs.declared.BinOp.TheVariants.{Shl, AShr, LShr}
use Rattle.terms.specs.declared.CmpOp.TheVariants.{Eq, Slt}
use Rattle.terms.specs.Expr.{Expr, Const}
use Rattle.pool.specs.declared.Node.{Node}
use Rattle.pool.specs.declared.Built.{Built}
use Rattle.pool_nodes.specs.Builders.{MadeConst, MadeBv, MadeCompare, MadeIte}
use Rattle.pool.proofs.Steps.{start, step, finish, given}
use Rattle.trees.specs.declared.SaturateTo.{SaturateTo}
use Rattle.trees.specs.declared.SaturateTo.TheVariants.{Signed, Unsigned, SignedToUnsigned}
use Rattle.std.specs.declared.option.Option.{Option}
use Rattle.std.specs.declared.option.Option.TheVariants.{None, Some}
use Rattle.trees.specs.declared.ShiftKind.{ShiftKind}
use Rattle.trees.specs.declared.ShiftKind.TheVariants.{LeftImmediate, RightImmediate, Register}
use Rattle.lower.specs.Builds.{Builds1, Builds2, BuildsIf}
use Rattle.lower_kinds.specs.Sources.{is_register}
use Rattle.saturation.specs.Bits.{lost, left_bit, shifted_bit, saturable_to, saturable_shift}

pub is_lost : {w0 w1 w2 w3 w4 w5 w6 : List ℕ} {k : ℕ} {r1 r2 r3 r4 r5 r6 : Built} {value amount : Node} {op : BinOp} {n : ℕ} (signed : Bool)
    → 1 ≤ n
    → n ≤ 64
    → op ≡ cond signed AShr LShr
    → MadeBv w0 k w1 r1 Shl value amount
    → MadeBv w1 r1.count w2 r2 op r1.node amount
    → MadeCompare w2 r2.count w3 r3 Eq r2.node value
    → MadeConst w3 r3.count w4 r4 0 0 1
    → MadeConst w4 r4.count w5 r5 1 0 1
    → MadeIte w5 r5.count w6 r6 r3.node r4.node r5.node
    → Builds2 w0 k w6 r6 6 value n amount n 1 (λ v a. lost v a signed) (value.0 ∷ amount.0 ∷ [])
unfolding lost
is_lost {value = value} {amount = amount} {n = n} signed l m f e1 e2 e3 e4 e5 e6 =
    rw (← f)
    (record {
      sized = omega (arith, e1.sized, e2.sized, e3.sized, e4.sized, e5.sized, e6.sized);
      made = λ {ta} {tb} v x y.
          let s0 = start v (given value.0 n ta ∷ given amount.0 n tb ∷ []) (x, (y, tt)) in
          let s1 = step s0 (0 ∷ 1 ∷ []) (e1.made s0.valid l (omega arith) s0.env.0 s0.env.1.0) in
          let s2 = step s1 (0 ∷ 2 ∷ []) (e2.made s1.valid l (omega arith) s1.env.0 s1.env.1.1.0) in
          let s3 = step s2 (0 ∷ 2 ∷ []) (e3.made s2.valid l s2.env.0 s2.env.1.1.0) in
          let s4 = step s3 [] (e4.made s3.valid (omega arith) (omega arith) refl (omega arith)) in
          let s5 = step s4 [] (e5.made s4.valid (omega arith) (omega arith) refl (omega arith)) in
          finish (step s5 (2 ∷ 1 ∷ 0 ∷ []) (e6.made s5.valid (omega arith) (omega arith) s5.env.1.1.0 s5.env.1.0 s5.env.0)) tt;
    })

pub left-exact : {w0 w1 : List ℕ} {k : ℕ} {r : Built} {value : Node} {to : SaturateTo} (shift n : ℕ) (signed : Bool)
    → to ≡ SignedToUnsigned
    → Builds1 w0 k w1 r 12 value n 1 (λ v. left_bit (Some SignedToUnsigned) v shift n true) (value.0 ∷ [])
    → Builds1 w0 k w1 r 12 value n 1 (λ v. left_bit (Some to) v shift n signed) (value.0 ∷ [])
left-exact shift n signed q e = rw q e

left-plain : (to : SaturateTo) (v : Expr) (shift n : ℕ) (signed : Bool) → (to ≡ SignedToUnsigned → ⊥) → left_bit (Some to) v shift n signed ≡ lost v (Const shift n) signed
left-plain Signed v shift n signed h = refl
left-plain Unsigned v shift n signed h = refl
left-plain SignedToUnsigned v shift n signed h = absurd (h refl)

pub left-lost : {w0 w1 w2 : List ℕ} {k : ℕ} {r1 r2 : Built} {value : Node} {to : SaturateTo} (shift n : ℕ) (signed : Bool)
    → shift < n
    → n ≤ 64
    → (to ≡ SignedToUnsigned → ⊥)
    → MadeConst w0 k w1 r1 shift 0 n
    → Builds2 w1 r1.count w2 r2 6 value n r1.node n 1 (λ v a. lost v a signed) (value.0 ∷ r1.node.0 ∷ [])
    → Builds1 w0 k w2 r2 12 value n 1 (λ v. left_bit (Some to) v shift n signed) (value.0 ∷ [])
left-lost {value = value} {to = to} shift n signed l m h e1 e2 =
    let fits : shift < 2 ^ n = small n shift n (omega arith) (omega arith) in
    record {
      sized = omega (arith, e1.sized, e2.sized);
      made = λ {ta} v x.
          let s0 = start v (given value.0 n ta ∷ []) (x, tt) in
          let s1 = step s0 [] (e1.made {v = shift} s0.valid (omega arith) (omega arith) (omega arith) fits) in
          rw (left-plain to ta shift n signed h) (finish (step s1 (1 ∷ 0 ∷ []) (e2.made s1.valid s1.env.1.0 s1.env.0)) tt);
    }

pub register : {w0 w1 w2 w3 w4 w5 : List ℕ} {k : ℕ} {r1 r2 r3 r4 r5 : Built} {value amount : Node} (n : ℕ) (rounding signed : Bool)
    → 8 ≤ n
    → n ≤ 64
    → Builds2 w0 k w1 r1 6 value n amount n 1 (λ v a. lost v a signed) (value.0 ∷ amount.0 ∷ [])
    → MadeConst w1 r1.count w2 r2 0 0 n
    → MadeCompare w2 r2.count w3 r3 Slt amount r2.node
    → MadeConst w3 r3.count w4 r4 0 0 1
    → MadeIte w4 r4.count w5 r5 r3.node r4.node r1.node
    → Builds2 w0 k w5 r5 10 value n amount n 1 (λ v a. shifted_bit (Register rounding true) signed v a n) (value.0 ∷ amount.0 ∷ [])
register {value = value} {amount = amount} n rounding signed l m e1 e2 e3 e4 e5 =
    record {
      sized = omega (arith, e1.sized, e2.sized, e3.sized, e4.sized, e5.sized);
      made = λ {ta} {tb} v x y.
          let s0 = start v (given value.0 n ta ∷ given amount.0 n tb ∷ []) (x, (y, tt)) in
          let s1 = step s0 (0 ∷ 1 ∷ []) (e1.made s0.valid s0.env.0 s0.env.1.0) in
          let s2 = step s1 [] (e2.made s1.valid (omega arith) (omega arith) refl (pow_pos n)) in
          let s3 = step s2 (3 ∷ 0 ∷ []) (e3.made s2.valid (omega arith) s2.env.1.1.1.0 s2.env.0) in
          let s4 = step s3 [] (e4.made s3.valid (omega arith) (omega arith) refl (omega arith)) in
          finish (step s4 (1 ∷ 0 ∷ 3 ∷ []) (e5.made s4.valid (omega arith) (omega arith) s4.env.1.0 s4.env.0 s4.env.1.1.1.0)) tt;
    }

-- ---- each kind
pub some-into : {w0 w1 : List ℕ} {k : ℕ} {r : Built} {value : Node} {saturate : Option SaturateTo} {to : SaturateTo} (shift n : ℕ) (signed : Bool) → saturate ≡ Some to
    → Builds1 w0 k w1 r 12 value n 1 (λ v. left_bit (Some to) v shift n signed) (value.0 ∷ [])
    → Builds1 w0 k w1 r 12 value n 1 (λ v. left_bit saturate v shift n signed) (value.0 ∷ [])
some-into shift n signed q e = rw q e

pub not-never : (saturate : Option SaturateTo) → saturate ≡ None → saturable_to saturate ≡ true → ⊥
not-never saturate q h = false≢true (sym (ap saturable_to q) ∙ h)

pub not_right : (kind : ShiftKind) {shift : ℕ} {rounding : Bool} → kind ≡ RightImmediate shift rounding → saturable_shift kind ≡ true → ⊥
not_right kind q h = false≢true (sym (ap saturable_shift q) ∙ h)

module _ {w0 w1 : List ℕ} {k : ℕ} {r : Built} {kind : ShiftKind} {value amount : Node} {n : ℕ} (signed : Bool) where
  pub is-left : {shift : ℕ} {saturate : Option SaturateTo} → kind ≡ LeftImmediate shift saturate
      → Builds1 w0 k w1 r 12 value n 1 (λ v. left_bit saturate v shift n signed) (value.0 ∷ [])
      → BuildsIf w0 k w1 r 12 value n (is_register kind) amount n 1 (λ v a. shifted_bit kind signed v a n)
  is-left q e = rw q (record { sized = e.sized; made = λ v x y. e.made v x })

  pub is-register : {rounding saturate : Bool} → kind ≡ Register rounding saturate → saturable_shift kind ≡ true
      → Builds2 w0 k w1 r 10 value n amount n 1 (λ v a. shifted_bit (Register rounding true) signed v a n) (value.0 ∷ amount.0 ∷ [])
      → BuildsIf w0 k w1 r 12 value n (is_register kind) amount n 1 (λ v a. shifted_bit kind signed v a n)
  is-register {rounding} {saturate} q h e =
      let t : saturate ≡ true = sym (ap saturable_shift q) ∙ h in
      rw (q, t) (record { sized = omega (arith, e.sized); made = λ v x y. e.made v x (y refl) })
