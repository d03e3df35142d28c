-- The lanes of the shifts, from what their calls build. Assumes nothing.
use Prim.Native.Nat.{ℕ, ◌+◌, ◌-◌, ◌*◌, ◌≤◌, ◌<◌}
use mathlib.Core.Path.{◌≡◌, refl, sym, ap, ◌∙◌}
use mathlib.Core.Bool.{Bool, true, false, false≢true}
use mathlib.Core.List.{List, [], ◌∷◌}
use native.Mathlib.Omega.{arith}
use native.Mathlib.Nat.{zero-add}
use borrow.Author.Tests.{lt-ltb, le-ltb}
use Rattle.terms.specs.Expr.{Expr}
use Rattle.pool.specs.declared.Node.{Node}
use Rattle.pool.specs.declared.Built.{Built}
use Rattle.pool.proofs.Steps.{start, step, finish, spare}
use Rattle.trees.specs.declared.ShiftKind.{ShiftKind}
use Rattle.trees.specs.declared.ShiftKind.TheVariants.{LeftImmediate, RightImmediate, Register}
use Rattle.trees.specs.Simd.{extract_collapsing}
use Rattle.trees.specs.Trees.{extract_lane, shift_at, signed_amount, shifted_by}
use Rattle.trees.specs.Simd as Simd
use Rattle.trees.specs.Arith as Arith
use Rattle.pool_nodes.specs.Builders.{MadeSignExtend}
use Rattle.lower_simd.specs.Cut.{MadeCut, MadeLane}
use Rattle.trees.proofs.Cuts.{cut-cut}
use Rattle.lower.specs.Builds.{BuildsIf, Lowers, read, read_if, unread}
use Rattle.lower.proofs.Lanes.{lane-fits}
use Rattle.lower_kinds.specs.Sources.{is_register}
use Rattle.lower_shift.specs.Lanes.{MadeAmount}

pub amount-byte : {w0 w1 w2 : List ℕ} {k : ℕ} {r1 r2 : Built} {second : Node} {n j : ℕ} → 8 < n → n ≤ 64
    → MadeCut w0 k w1 r1 second (7 + n * j) (n * j)
    → MadeSignExtend w1 r1.count w2 r2 r1.node n
    → MadeAmount w0 k w2 r2 second n j
unfolding Simd.extract_lane
amount-byte {n = n} {j = j} h m cut wide =
    record {
      sized = omega (arith, cut.sized, wide.sized);
      made = λ {w} {t} v b x.
          let byte : extract_collapsing (extract_collapsing t (n * j + n - 1) (n * j)) 7 0 ≡ extract_collapsing t (7 + n * j) (n * j) =
          cut-cut t (n * j + n - 1) (n * j) 7 0 (omega arith) ∙ ap (λ (lo : ℕ). extract_collapsing t (7 + n * j) lo) (zero-add (n * j)) in
          let s1 = step (start v [] tt) [] (cut.made {u = 8} v (omega arith) (omega arith) x) in
          rw (lt-ltb 8 n h, byte) (finish (step s1 (0 ∷ []) (wide.made s1.valid (omega arith) (omega arith) (omega arith) s1.env.0)) tt);
    }

pub amount-whole : {w0 w1 : List ℕ} {k : ℕ} {r : Built} {second : Node} {n j : ℕ} → n ≤ 8 → MadeLane w0 k w1 r second n j → MadeAmount w0 k w1 r second n j
amount-whole {n = n} h d = record { sized = omega (arith, d.sized); made = λ v b x. rw (le-ltb 8 n h) (d.made v b x) }

pub at_register : {w0 w1 w2 w3 : List ℕ} {k : ℕ} {r1 r2 r3 : Built} {first second : Node} {n lanes j : ℕ} (kind : ShiftKind) (signed : Bool)
    → j < lanes
    → n * lanes ≤ 128
    → is_register kind ≡ true
    → MadeLane w0 k w1 r1 first n j
    → MadeAmount w1 r1.count w2 r2 second n j
    → BuildsIf w2 r2.count w3 r3 21 r1.node n (is_register kind) r2.node n n (λ v a. shifted_by kind signed v a n)
    → Lowers w0 k w3 r3 24 n unread (read first (n * lanes)) (read_if (is_register kind) second (n * lanes)) (λ d a b. shift_at kind signed n a b j) []
unfolding Arith.shift_lane
at_register {first = first} {second = second} {n = n} {lanes = lanes} {j = j} kind signed h b q e1 e2 e3 =
    let fits : n * j + n ≤ n * lanes = lane-fits n j lanes h (omega arith) in
    record {
      sized = omega (arith, e1.sized, e2.sized, e3.sized);
      made = λ {td} {ta} {tb} v x y z.
          let s0 = start v (spare first.0 (n * lanes) ta ∷ spare second.0 (n * lanes) tb ∷ []) ((y refl), ((z q), tt)) in
          let s1 = step s0 [] (e1.made s0.valid fits s0.env.0) in
          let s2 = step s1 [] (e2.made s1.valid fits s1.env.1.1.0) in
          finish (step s2 (1 ∷ 0 ∷ []) (rw q at (e3.made s2.valid s2.env.1.0 (λ u. s2.env.0)))) tt;
    }

-- the kinds by an immediate do not look at the amount
no-amount : (kind : ShiftKind) → is_register kind ≡ false → (signed : Bool) (v a b : Expr) (n : ℕ) → shifted_by kind signed v a n ≡ shifted_by kind signed v b n
no-amount (LeftImmediate shift saturate) q signed v a b n = refl
no-amount (RightImmediate shift rounding) q signed v a b n = refl
no-amount (Register rounding saturate) q signed v a b n = absurd (false≢true (sym q))

pub at-immediate : {w0 w1 w2 : List ℕ} {k : ℕ} {r1 r2 : Built} {first second : Node} {n lanes j : ℕ} (kind : ShiftKind) (signed : Bool)
    → j < lanes
    → n * lanes ≤ 128
    → is_register kind ≡ false
    → MadeLane w0 k w1 r1 first n j
    → BuildsIf w1 r1.count w2 r2 21 r1.node n (is_register kind) r1.node n n (λ v a. shifted_by kind signed v a n)
    → Lowers w0 k w2 r2 24 n unread (read first (n * lanes)) (read_if (is_register kind) second (n * lanes)) (λ d a b. shift_at kind signed n a b j) []
unfolding Arith.shift_lane
at-immediate {first = first} {second = second} {n = n} {lanes = lanes} {j = j} kind signed h b q e1 e2 =
    let fits : n * j + n ≤ n * lanes = lane-fits n j lanes h (omega arith) in
    record {
      sized = omega (arith, e1.sized, e2.sized);
      made = λ {td} {ta} {tb} v x y z.
          let s0 = start v (spare first.0 (n * lanes) ta ∷ []) ((y refl), tt) in
          let s1 = step s0 [] (e1.made s0.valid fits s0.env.0) in
          rw (no-amount kind q signed (extract_lane ta n j) (signed_amount (extract_lane tb n j) n) (extract_lane ta n j) n)
          (finish (step s1 (0 ∷ []) (rw q at (e2.made s1.valid s1.env.0 (λ u. s1.env.0)))) tt);
    }
