-- The bit of one lane over whole registers, from what its calls build. Assumes nothing.
use Prim.Native.Nat.{ℕ, ◌+◌, ◌*◌, ◌/◌, ◌≤◌}
use mathlib.Core.Path.{◌≡◌, refl, sym}
use mathlib.Core.Bool.{Bool, true, false, false≢true}
use mathlib.Core.List.{List, [], ◌∷◌}
use native.Mathlib.Omega.{arith}
use Rattle.terms.specs.declared.BinOp.{BinOp}
use Rattle.terms.specs.declared.BinOp.TheVariants.{Or}
use Rattle.terms.specs.Expr.{Expr}
use Rattle.pool.specs.declared.Node.{Node}
use Rattle.pool.specs.declared.Built.{Built}
use Rattle.pool_nodes.specs.Builders.{MadeBv}
use Rattle.pool.proofs.Steps.{start, step, finish, given, spare}
use Rattle.trees.specs.declared.SaturateTo.TheVariants.{Signed}
use Rattle.trees.specs.declared.SaturatingKind.{SaturatingKind}
use Rattle.trees.specs.declared.SaturatingKind.TheVariants.{AddSub, Halving, Narrow, ShiftNarrow, DoublingMultiplyHigh, Unary}
use Rattle.trees.specs.declared.ShiftKind.{ShiftKind}
use Rattle.trees.specs.declared.ShiftKind.TheVariants.{LeftImmediate, RightImmediate, Register}
use Rattle.std.specs.declared.option.Option.{Option}
use Rattle.std.specs.declared.option.Option.TheVariants.{None, Some}
use Rattle.trees.specs.Arith.{joined, twice, kind_bits}
use Rattle.trees.specs.Trees.{extract_lane, clamp, signed_amount}
use Rattle.trees.specs.Arith as Arith
use Rattle.lower_simd.specs.Cut.{MadeLane}
use Rattle.lower.specs.Builds.{Builds1, Builds2, BuildsIf, Lowers, read, read_if, unread}
use Rattle.lower.proofs.Lanes.{lane_of}
use Rattle.lower_kinds.specs.Sources.{is_register, uses_second}
use Rattle.lower_shift.specs.Lanes.{MadeAmount}
use Rattle.lower_doubling_long.specs.Elements.{accumulates}
use Rattle.saturation.specs.Bits.{shift_bit, shifted_bit, saturating_bit, mixed_sign_bit, clipped, product_bit, doubling_long_bit}

-- ---- shifts
pub at_register : {w0 w1 w2 w3 : List ℕ} {k : ℕ} {r1 r2 r3 : Built} {first second : Node} {n j : ℕ} (kind : ShiftKind) (signed : Bool)
    → n * j + n ≤ 128
    → is_register kind ≡ true
    → MadeLane w0 k w1 r1 first n j
    → MadeAmount w1 r1.count w2 r2 second n j
    → BuildsIf w2 r2.count w3 r3 12 r1.node n (is_register kind) r2.node n 1 (λ v a. shifted_bit kind signed v a n)
    → Lowers w0 k w3 r3 15 1 unread (read first 128) (read_if (is_register kind) second 128) (λ d a b. shift_bit kind signed (extract_lane a n j) (extract_lane b n j) n) []
unfolding shift_bit
at_register {first = first} {second = second} {n = n} {j = j} kind signed fits q e1 e2 e3 =
    record {
      sized = omega (arith, e1.sized, e2.sized, e3.sized);
      made = λ {td} {ta} {tb} v x y z.
          let s0 = start v (spare first.0 128 ta ∷ spare second.0 128 tb ∷ []) ((y refl), ((z q), tt)) in
          let s1 = step s0 [] (e1.made s0.valid fits s0.env.0) in
          let s2 = step s1 [] (e2.made s1.valid fits s1.env.1.1.0) in
          finish (step s2 (1 ∷ 0 ∷ []) (rw q at (e3.made s2.valid s2.env.1.0 (λ u. s2.env.0)))) tt;
    }

-- the kinds by an immediate do not look at the amount
no-amount : (kind : ShiftKind) → is_register kind ≡ false → (signed : Bool) (v a b : Expr) (n : ℕ) → shifted_bit kind signed v a n ≡ shifted_bit kind signed v b n
no-amount (LeftImmediate shift saturate) q signed v a b n = refl
no-amount (RightImmediate shift rounding) q signed v a b n = refl
no-amount (Register rounding saturate) q signed v a b n = absurd (false≢true (sym q))

pub at-immediate : {w0 w1 w2 : List ℕ} {k : ℕ} {r1 r2 : Built} {first second : Node} {n j : ℕ} (kind : ShiftKind) (signed : Bool)
    → n * j + n ≤ 128
    → is_register kind ≡ false
    → MadeLane w0 k w1 r1 first n j
    → BuildsIf w1 r1.count w2 r2 12 r1.node n (is_register kind) r1.node n 1 (λ v a. shifted_bit kind signed v a n)
    → Lowers w0 k w2 r2 15 1 unread (read first 128) (read_if (is_register kind) second 128) (λ d a b. shift_bit kind signed (extract_lane a n j) (extract_lane b n j) n) []
unfolding shift_bit
at-immediate {first = first} {second = second} {n = n} {j = j} kind signed fits q e1 e2 =
    record {
      sized = omega (arith, e1.sized, e2.sized);
      made = λ {td} {ta} {tb} v x y z.
          let s0 = start v (spare first.0 128 ta ∷ []) ((y refl), tt) in
          let s1 = step s0 [] (e1.made s0.valid fits s0.env.0) in
          rw (no-amount kind q signed (extract_lane ta n j) (signed_amount (extract_lane tb n j) n) (extract_lane ta n j) n)
          (finish (step s1 (0 ∷ []) (rw q at (e2.made s1.valid s1.env.0 (λ u. s1.env.0)))) tt);
    }

-- ---- mixed sign
pub at-mixed : {w0 w1 w2 w3 : List ℕ} {k : ℕ} {r1 r2 r3 : Built} {first d : Node} {n j : ℕ} (signed : Bool)
    → n * j + n ≤ 128
    → MadeLane w0 k w1 r1 d n j
    → MadeLane w1 r1.count w2 r2 first n j
    → Builds2 w2 r2.count w3 r3 12 r1.node n r2.node n 1 (λ d a. mixed_sign_bit signed d a n) (r1.node.0 ∷ r2.node.0 ∷ [])
    → Lowers w0 k w3 r3 14 1 (read d 128) (read first 128) unread (λ d a b. mixed_sign_bit signed (extract_lane d n j) (extract_lane a n j) n) []
at-mixed {first = first} {d = d} signed fits e1 e2 e3 =
    record {
      sized = omega (arith, e1.sized, e2.sized, e3.sized);
      made = λ {td} {ta} {tb} v x y z.
          let s0 = start v (spare first.0 128 ta ∷ spare d.0 128 td ∷ []) ((y refl), ((x refl), tt)) in
          let s1 = step s0 [] (e1.made s0.valid fits s0.env.1.0) in
          let s2 = step s1 [] (e2.made s1.valid fits s1.env.1.0) in
          finish (step s2 (1 ∷ 0 ∷ []) (e3.made s2.valid s2.env.1.0 s2.env.0)) tt;
    }

-- ---- the saturating kinds
pub at-two : {w0 w1 w2 w3 : List ℕ} {k : ℕ} {r1 r2 r3 : Built} {first second : Node} {bits : ℕ} (n : ℕ) {j : ℕ} (kind : SaturatingKind) (signed : Bool)
    → kind_bits kind n * j + kind_bits kind n ≤ 128
    → bits ≡ kind_bits kind n
    → uses_second kind ≡ true
    → MadeLane w0 k w1 r1 first bits j
    → MadeLane w1 r1.count w2 r2 second bits j
    → BuildsIf w2 r2.count w3 r3 18 r1.node (kind_bits kind n) (uses_second kind) r2.node (kind_bits kind n) 1 (λ a b. saturating_bit kind a b n signed)
    → Lowers w0 k w3 r3 20 1 unread (read first 128) (read_if (uses_second kind) second 128)
    (λ d a b. saturating_bit kind (extract_lane a (kind_bits kind n) j) (extract_lane b (kind_bits kind n) j) n signed) []
at-two {first = first} {second = second} n {j} kind signed fits e q e1 e2 e3 =
    let l1 = lane_of {m = kind_bits kind n} e e1 in
    let l2 = lane_of {m = kind_bits kind n} e e2 in
    record {
      sized = omega (arith, e1.sized, e2.sized, e3.sized);
      made = λ {td} {ta} {tb} v x y z.
          let s0 = start v (spare first.0 128 ta ∷ spare second.0 128 tb ∷ []) ((y refl), ((z q), tt)) in
          let s1 = step s0 [] (l1.made s0.valid fits s0.env.0) in
          let s2 = step s1 [] (l2.made s1.valid fits s1.env.1.1.0) in
          finish (step s2 (1 ∷ 0 ∷ []) (rw q at (e3.made s2.valid s2.env.1.0 (λ u. s2.env.0)))) tt;
    }

-- the kinds of one source do not look at a second
no_second : (kind : SaturatingKind) → uses_second kind ≡ false → (a b c : Expr) (n : ℕ) (signed : Bool) → saturating_bit kind a b n signed ≡ saturating_bit kind a c n signed
unfolding saturating_bit
no_second (AddSub op to) q a b c n signed = absurd (false≢true (sym q))
no_second (Halving rounding) q a b c n signed = absurd (false≢true (sym q))
no_second (Narrow to) q a b c n signed = refl
no_second (ShiftNarrow shift rounding to) q a b c n signed = refl
no_second (DoublingMultiplyHigh rounding) q a b c n signed = absurd (false≢true (sym q))
no_second (Unary negate) q a b c n signed = refl

pub at_one : {w0 w1 w2 : List ℕ} {k : ℕ} {r1 r2 : Built} {first second : Node} {bits : ℕ} (n : ℕ) {j : ℕ} (kind : SaturatingKind) (signed : Bool)
    → kind_bits kind n * j + kind_bits kind n ≤ 128
    → bits ≡ kind_bits kind n
    → uses_second kind ≡ false
    → MadeLane w0 k w1 r1 first bits j
    → BuildsIf w1 r1.count w2 r2 18 r1.node (kind_bits kind n) (uses_second kind) r1.node (kind_bits kind n) 1 (λ a b. saturating_bit kind a b n signed)
    → Lowers w0 k w2 r2 20 1 unread (read first 128) (read_if (uses_second kind) second 128)
    (λ d a b. saturating_bit kind (extract_lane a (kind_bits kind n) j) (extract_lane b (kind_bits kind n) j) n signed) []
at_one {first = first} {second = second} n {j} kind signed fits e q e1 e2 =
    let l1 = lane_of {m = kind_bits kind n} e e1 in
    record {
      sized = omega (arith, e1.sized, e2.sized);
      made = λ {td} {ta} {tb} v x y z.
          let s0 = start v (spare first.0 128 ta ∷ []) ((y refl), tt) in
          let s1 = step s0 [] (l1.made s0.valid fits s0.env.0) in
          rw (no_second kind q (extract_lane ta (kind_bits kind n) j) (extract_lane tb (kind_bits kind n) j) (extract_lane ta (kind_bits kind n) j) n signed)
          (finish (step s1 (0 ∷ []) (rw q at (e2.made s1.valid s1.env.0 (λ u. s1.env.0)))) tt);
    }

-- ---- doubling, long
pub either : {w0 w1 w2 w3 w4 w5 : List ℕ} {k : ℕ} {r1 r2 r3 r4 r5 : Built} {d a b : Node} (op : BinOp) (n : ℕ)
    → Builds2 w0 k w1 r1 5 a (n / 2) b (n / 2) (n + 1) (λ a b. twice a b (n + 1)) (a.0 ∷ b.0 ∷ [])
    → Builds1 w1 r1.count w2 r2 9 r1.node (n + 1) 1 (λ v. clipped v (n + 1) n Signed) (r1.node.0 ∷ [])
    → Builds1 w2 r2.count w3 r3 7 r1.node (n + 1) n (λ v. clamp v (n + 1) n Signed) (r1.node.0 ∷ [])
    → Builds2 w3 r3.count w4 r4 12 d n r3.node n 1 (λ d p. clipped (joined op d true p true (n + 1)) (n + 1) n Signed) (d.0 ∷ r3.node.0 ∷ [])
    → MadeBv w4 r4.count w5 r5 Or r2.node r4.node
    → Lowers w0 k w5 r5 34 1 (read d n) (read a (n / 2)) (read b (n / 2)) (λ d a b. doubling_long_bit (Some op) d a b n) (a.0 ∷ b.0 ∷ d.0 ∷ [])
unfolding doubling_long_bit Arith.doubling_product
either {d = d} {a = a} {b = b} op n e1 e2 e3 e4 e5 =
    record {
      sized = omega (arith, e1.sized, e2.sized, e3.sized, e4.sized, e5.sized);
      made = λ {td} {ta} {tb} v x y z.
          let s0 = start v (given a.0 (n / 2) ta ∷ given b.0 (n / 2) tb ∷ given d.0 n td ∷ []) ((y refl), ((z refl), ((x refl), tt))) in
          let s1 = step s0 (0 ∷ 1 ∷ []) (e1.made s0.valid s0.env.0 s0.env.1.0) in
          let s2 = step s1 (0 ∷ []) (e2.made s1.valid s1.env.0) in
          let s3 = step s2 (1 ∷ []) (e3.made s2.valid s2.env.1.0) in
          let s4 = step s3 (5 ∷ 0 ∷ []) (e4.made s3.valid s3.env.1.1.1.1.1.0 s3.env.0) in
          finish (step s4 (2 ∷ 0 ∷ []) (e5.made s4.valid (omega arith) (omega arith) s4.env.1.1.0 s4.env.0)) tt;
    }

pub at-nothing : {w0 w1 w2 w3 : List ℕ} {k : ℕ} {r1 r2 r3 : Built} {first second d : Node} {combine : Option BinOp} (n f g j : ℕ)
    → n / 2 * f + n / 2 ≤ 128
    → n / 2 * g + n / 2 ≤ 128
    → combine ≡ None
    → MadeLane w0 k w1 r1 first (n / 2) f
    → MadeLane w1 r1.count w2 r2 second (n / 2) g
    → Builds2 w2 r2.count w3 r3 14 r1.node (n / 2) r2.node (n / 2) 1 (λ a b. product_bit a b n) (r1.node.0 ∷ r2.node.0 ∷ [])
    → Lowers w0 k w3 r3 37 1 (read_if (accumulates combine) d 128) (read first 128) (read second 128)
    (λ d a b. doubling_long_bit combine (extract_lane d n j) (extract_lane a (n / 2) f) (extract_lane b (n / 2) g) n) []
unfolding doubling_long_bit
at-nothing {first = first} {second = second} n f g j hf hg q e1 e2 e3 =
    rw q
    (record {
      sized = omega (arith, e1.sized, e2.sized, e3.sized);
      made = λ {td} {ta} {tb} v x y z.
          let s0 = start v (spare first.0 128 ta ∷ spare second.0 128 tb ∷ []) ((y refl), ((z refl), tt)) in
          let s1 = step s0 [] (e1.made s0.valid hf s0.env.0) in
          let s2 = step s1 [] (e2.made s1.valid hg s1.env.1.1.0) in
          finish (step s2 (1 ∷ 0 ∷ []) (e3.made s2.valid s2.env.1.0 s2.env.0)) tt;
    })

pub at_with : {w0 w1 w2 w3 w4 : List ℕ} {k : ℕ} {r1 r2 r3 r4 : Built} {first second d : Node} {combine : Option BinOp} {op : BinOp} (n f g j : ℕ)
    → n / 2 * f + n / 2 ≤ 128
    → n / 2 * g + n / 2 ≤ 128
    → n * j + n ≤ 128
    → combine ≡ Some op
    → MadeLane w0 k w1 r1 first (n / 2) f
    → MadeLane w1 r1.count w2 r2 second (n / 2) g
    → MadeLane w2 r2.count w3 r3 d n j
    → Lowers w3 r3.count w4 r4 34 1 (read r3.node n) (read r1.node (n / 2)) (read r2.node (n / 2)) (λ d a b. doubling_long_bit (Some op) d a b n)
    (r1.node.0 ∷ r2.node.0 ∷ r3.node.0 ∷ [])
    → Lowers w0 k w4 r4 37 1 (read_if (accumulates combine) d 128) (read first 128) (read second 128)
    (λ d a b. doubling_long_bit combine (extract_lane d n j) (extract_lane a (n / 2) f) (extract_lane b (n / 2) g) n) []
at_with {first = first} {second = second} {d = d} n f g j hf hg hj q e1 e2 e3 e4 =
    rw q
    (record {
      sized = omega (arith, e1.sized, e2.sized, e3.sized, e4.sized);
      made = λ {td} {ta} {tb} v x y z.
          let s0 = start v (spare first.0 128 ta ∷ spare second.0 128 tb ∷ spare d.0 128 td ∷ []) ((y refl), ((z refl), ((x refl), tt))) in
          let s1 = step s0 [] (e1.made s0.valid hf s0.env.0) in
          let s2 = step s1 [] (e2.made s1.valid hg s1.env.1.1.0) in
          let s3 = step s2 [] (e3.made s2.valid hj s2.env.1.1.1.1.0) in
          finish (step s3 (2 ∷ 1 ∷ 0 ∷ []) (e4.made s3.valid (λ u. s3.env.0) (λ u. s3.env.1.1.0) (λ u. s3.env.1.0))) tt;
    })
