-- The lanes of the saturating operations, from what their calls build. Assumes nothing.
use Prim.Native.Nat.{ℕ, ◌+◌, ◌-◌, ◌*◌, ◌≤◌, ◌<◌}
use mathlib.Core.Path.{◌≡◌, refl, sym}
use mathlib.Core.Bool.{Bool, true, false, false≢true}
use mathlib.Core.List.{List, [], ◌∷◌}
use mathlib.Core.Logic.{◌⊎◌, inl, inr}
use native.Mathlib.Omega.{arith}
use Rattle.terms.specs.Expr.{Expr}
use Rattle.pool.specs.declared.Node.{Node}
use Rattle.pool.specs.declared.Built.{Built}
use Rattle.pool.proofs.Steps.{start, step, finish, spare}
use Rattle.trees.specs.declared.SaturatingKind.{SaturatingKind}
use Rattle.trees.specs.declared.SaturatingKind.TheVariants.{AddSub, Halving, Narrow, ShiftNarrow, DoublingMultiplyHigh, Unary}
use Rattle.trees.specs.Simd.{concat_lanes}
use Rattle.trees.specs.Arith.{kind_bits}
use Rattle.trees.specs.Trees.{extract_lane, saturating_at, keep_lower, saturating_lane, saturating_lanes}
use Rattle.trees.specs.Arith as Arith
use Rattle.lower_simd.specs.Cut.{MadeLane}
use Rattle.lower.specs.Builds.{BuildsIf, BuildsCut, Lowers, read, read_if, unread, with_lower}
use Rattle.lower.proofs.Lanes.{lane-fits, lane_of, kept-below}
use Rattle.lower_kinds.specs.Sources.{uses_second}

-- ---- one lane

at-two : {w0 w1 w2 w3 : List ℕ} {k : ℕ} {r1 r2 r3 : Built} {first second : Node} {bits n lanes j : ℕ} (kind : SaturatingKind) (signed : Bool)
    → j < lanes
    → bits ≡ kind_bits kind n
    → uses_second kind ≡ true
    → MadeLane w0 k w1 r1 first bits j
    → MadeLane w1 r1.count w2 r2 second bits j
    → BuildsIf w2 r2.count w3 r3 16 r1.node (kind_bits kind n) (uses_second kind) r2.node (kind_bits kind n) n (λ a b. saturating_lane kind a b n signed)
    → Lowers w0 k w3 r3 18 n unread (read first (kind_bits kind n * lanes)) (read_if (uses_second kind) second (kind_bits kind n * lanes)) (λ d a b. saturating_at kind signed n a b j) []
at-two {first = first} {second = second} {n = n} {lanes = lanes} {j = j} kind signed h e q e1 e2 e3 =
    let fits : kind_bits kind n * j + kind_bits kind n ≤ kind_bits kind n * lanes = lane-fits (kind_bits kind n) j lanes h (omega arith) in
    let l1 = lane_of {m = kind_bits kind n} e e1 in
    let l2 = lane_of {m = kind_bits kind n} e e2 in
    record {
      sized = omega (arith, e1.sized, e2.sized, e3.sized);
      made = λ {td} {ta} {tb} v x y z.
          let s0 = start v (spare first.0 (kind_bits kind n * lanes) ta ∷ spare second.0 (kind_bits kind n * lanes) tb ∷ []) ((y refl), ((z q), tt)) in
          let s1 = step s0 [] (l1.made s0.valid fits s0.env.0) in
          let s2 = step s1 [] (l2.made s1.valid fits s1.env.1.1.0) in
          finish (step s2 (1 ∷ 0 ∷ []) (rw q at (e3.made s2.valid s2.env.1.0 (λ u. s2.env.0)))) tt;
    }

-- the kinds of one source do not look at a second
no_second : (kind : SaturatingKind) → uses_second kind ≡ false → (a b c : Expr) (n : ℕ) (signed : Bool) → saturating_lane kind a b n signed ≡ saturating_lane kind a c n signed
unfolding Arith.saturating_lane
no_second (AddSub op to) q a b c n signed = absurd (false≢true (sym q))
no_second (Halving rounding) q a b c n signed = absurd (false≢true (sym q))
no_second (Narrow to) q a b c n signed = refl
no_second (ShiftNarrow shift rounding to) q a b c n signed = refl
no_second (DoublingMultiplyHigh rounding) q a b c n signed = absurd (false≢true (sym q))
no_second (Unary negate) q a b c n signed = refl

at_one : {w0 w1 w2 : List ℕ} {k : ℕ} {r1 r2 : Built} {first second : Node} {bits n lanes j : ℕ} (kind : SaturatingKind) (signed : Bool)
    → j < lanes
    → bits ≡ kind_bits kind n
    → uses_second kind ≡ false
    → MadeLane w0 k w1 r1 first bits j
    → BuildsIf w1 r1.count w2 r2 16 r1.node (kind_bits kind n) (uses_second kind) r1.node (kind_bits kind n) n (λ a b. saturating_lane kind a b n signed)
    → Lowers w0 k w2 r2 18 n unread (read first (kind_bits kind n * lanes)) (read_if (uses_second kind) second (kind_bits kind n * lanes)) (λ d a b. saturating_at kind signed n a b j) []
at_one {first = first} {second = second} {n = n} {lanes = lanes} {j = j} kind signed h e q e1 e2 =
    let fits : kind_bits kind n * j + kind_bits kind n ≤ kind_bits kind n * lanes = lane-fits (kind_bits kind n) j lanes h (omega arith) in
    let l1 = lane_of {m = kind_bits kind n} e e1 in
    record {
      sized = omega (arith, e1.sized, e2.sized);
      made = λ {td} {ta} {tb} v x y z.
          let s0 = start v (spare first.0 (kind_bits kind n * lanes) ta ∷ []) ((y refl), tt) in
          let s1 = step s0 [] (l1.made s0.valid fits s0.env.0) in
          rw (no_second kind q (extract_lane ta (kind_bits kind n) j) (extract_lane tb (kind_bits kind n) j) (extract_lane ta (kind_bits kind n) j) n signed)
          (finish (step s1 (0 ∷ []) (rw q at (e2.made s1.valid s1.env.0 (λ u. s1.env.0)))) tt);
    }

-- the second lane, cut from its source; or the first one again, if the kind has no second source
abbrev pub Second : (w1 : List ℕ) (r1 : Built) (w2 : List ℕ) (r2 : Built) (used : Bool) (second : Node) (bits j : ℕ) → Type 0
Second w1 r1 w2 r2 used second bits j = ((used ≡ true) × MadeLane w1 r1.count w2 r2 second bits j) ⊎ ((used ≡ false) × (w2 ≡ w1) × (r2 ≡ r1))

pub at-lane : {w0 w1 w2 w3 : List ℕ} {k : ℕ} {r1 r2 r3 : Built} {first second : Node} {bits n lanes j : ℕ} (kind : SaturatingKind) (signed : Bool)
    → j < lanes
    → bits ≡ kind_bits kind n
    → MadeLane w0 k w1 r1 first bits j
    → Second w1 r1 w2 r2 (uses_second kind) second bits j
    → BuildsIf w2 r2.count w3 r3 16 r1.node (kind_bits kind n) (uses_second kind) r2.node (kind_bits kind n) n (λ a b. saturating_lane kind a b n signed)
    → Lowers w0 k w3 r3 18 n unread (read first (kind_bits kind n * lanes)) (read_if (uses_second kind) second (kind_bits kind n * lanes)) (λ d a b. saturating_at kind signed n a b j) []
at-lane kind signed h e e1 (inl p) e3 = at-two kind signed h e p.0 e1 p.1 e3
at-lane kind signed h e e1 (inr p) e3 = at_one kind signed h e p.0 e1 (rw (p.1, p.2) at e3)

-- ---- all lanes, with the lower half of the old destination below them in the 2 forms

module _ {w0 : List ℕ} {k : ℕ} {w1 : List ℕ} {r1 : Built} {first second d : Node} (kind : SaturatingKind) (signed : Bool) {upper : Bool} (n lanes : ℕ) where
  pub with-lower : {w2 : List ℕ} {r2 : Built} → upper ≡ true
      → Lowers w0 k w1 r1 (19 * lanes) (n * lanes) unread (read first (kind_bits kind n * lanes)) (read_if (uses_second kind) second (kind_bits kind n * lanes))
      (λ d a b. concat_lanes (lanes - 1) (saturating_at kind signed n a b)) []
      → BuildsCut w1 r1.count w2 r2 2 r1.node (n * lanes) true d (n * lanes * 2) (with_lower true (n * lanes)) (λ v x. keep_lower true v x n lanes)
      → Lowers w0 k w2 r2 (19 * lanes + 2) (with_lower upper (n * lanes)) (read_if upper d (n * lanes * 2)) (read first (kind_bits kind n * lanes))
      (read_if (uses_second kind) second (kind_bits kind n * lanes)) (λ d a b. saturating_lanes kind signed upper a b d n lanes) []
  unfolding Arith.saturating_lanes
  with-lower q e1 e2 = rw q (kept-below true n lanes e1 e2)

  pub alone : upper ≡ false
      → Lowers w0 k w1 r1 (19 * lanes) (n * lanes) unread (read first (kind_bits kind n * lanes)) (read_if (uses_second kind) second (kind_bits kind n * lanes))
      (λ d a b. concat_lanes (lanes - 1) (saturating_at kind signed n a b)) []
      → Lowers w0 k w1 r1 (19 * lanes + 2) (with_lower upper (n * lanes)) (read_if upper d (n * lanes * 2)) (read first (kind_bits kind n * lanes))
      (read_if (uses_second kind) second (kind_bits kind n * lanes)) (λ d a b. saturating_lanes kind signed upper a b d n lanes) []
  unfolding Arith.saturating_lanes
  alone q e = rw q (record { sized = omega (arith, e.sized); made = λ {td} v x y z. e.made {td = td} v (λ u. absurd (false≢true u)) y z })
