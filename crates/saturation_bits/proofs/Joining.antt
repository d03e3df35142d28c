-- The bits of an instruction's lanes, from what their calls build. Assumes nothing.
use Prim.Native.Nat.{ℕ, ◌+◌, ◌-◌, ◌*◌, ◌/◌, ◌≤◌, ◌<◌}
use mathlib.Core.Path.{◌≡◌, refl, subst}
use mathlib.Core.Bool.{Bool, true, false, cond, false≢true}
use mathlib.Core.List.{List, [], ◌∷◌}
use native.Mathlib.Omega.{arith}
use lib.Pow.{pow_pos}
use Rattle.terms.specs.declared.CmpOp.TheVariants.{Eq}
use Rattle.pool.specs.declared.Node.{Node}
use Rattle.pool.specs.declared.Built.{Built}
use Rattle.pool_nodes.specs.Builders.{MadeConst, MadeCompare, MadeIte}
use Rattle.pool.proofs.Steps.{start, step, finish, given}
use Rattle.trees.specs.declared.NeonOp.{NeonOp}
use Rattle.trees.specs.declared.NeonShape.{NeonShape}
use Rattle.std.specs.declared.option.Option.{Option}
use Rattle.terms.specs.declared.BinOp.{BinOp}
use Rattle.trees.specs.Simd.{concat_lanes}
use Rattle.trees.specs.Arith.{source_lane}
use Rattle.trees.specs.Trees.{extract_lane}
use Rattle.lower.specs.Builds.{Source, Lowers, read, read_if, unread}
use Rattle.lower_doubling_long.specs.Elements.{accumulates}
use Rattle.trees.specs.declared.NeonOp.TheVariants.{DoublingLong}
use Rattle.lower_neon.proofs.Sources.{Weaker}
use Rattle.lower_doubling_long.proofs.Multiplying.{factor-fits, factor-most}
use Rattle.lower_neon.specs.Family.{reads_second, reads_old}
use Rattle.saturation.specs.Bits.{doubling_long_bit, instruction_bit}
use Rattle.saturation_bits.specs.Lanes.{family_bit, lane_at, BitMade}

-- the lane of the first factor, and of the second, lies within a register
pub from-fits : {op : NeonOp} {combine : Option BinOp} {upper element : Bool} → op ≡ DoublingLong combine upper element → (n lanes : ℕ) {j lane : ℕ} → j < lanes → n * lanes ≤ 128
    → lane ≡ source_lane upper lanes j → n / 2 * lane + n / 2 ≤ 128
from-fits {upper = upper} q n lanes h l e = omega (arith, factor-fits upper n lanes h e, factor-most upper n lanes l)

pub with-fits : {op : NeonOp} {combine : Option BinOp} {upper element : Bool} → op ≡ DoublingLong combine upper element → (n i f : ℕ) {g : ℕ} → g ≡ cond element i f
    → n / 2 * i + n / 2 ≤ 128 → n / 2 * f + n / 2 ≤ 128 → n / 2 * g + n / 2 ≤ 128
with-fits {element = element} q n i f e h l = rw e (go element)
  where
    go : (element : Bool) → n / 2 * cond element i f + n / 2 ≤ 128
    go true = h
    go false = l

-- a source that is not read may be any
pub any-source : (s : Source) → Weaker unread s
any-source s ws c t x e = absurd (false≢true e)

pub doubled : {w0 w1 : List ℕ} {k : ℕ} {r : Built} {first second d : Node} {op : NeonOp} {combine : Option BinOp} {upper element : Bool} (n lanes i j : ℕ) {f g : ℕ}
    → op ≡ DoublingLong combine upper element
    → f ≡ source_lane upper lanes j
    → g ≡ cond element i f
    → Lowers w0 k w1 r 37 1 (read_if (accumulates combine) d 128) (read first 128) (read second 128)
    (λ d a b. doubling_long_bit combine (extract_lane d n j) (extract_lane a (n / 2) f) (extract_lane b (n / 2) g) n) []
    → Lowers w0 k w1 r 37 1 (read_if (reads_old op) d 128) (read first 128) (read_if (reads_second op) second 128) (λ d a b. family_bit op n lanes i d a b j) []
doubled n lanes i j o p q e = rw (o, ← p, ← q) e

pub instruction : {w0 w1 w2 w3 w4 w5 : List ℕ} {k : ℕ} {r1 r2 r3 r4 r5 : Built} {first second d before : Node} (s : NeonShape)
    → 1 ≤ s.lanes
    → s.lanes ≤ 16
    → Lowers w0 k w1 r1 (38 * s.lanes) (1 * s.lanes) (read_if (reads_old s.op) d 128) (read first 128) (read_if (reads_second s.op) second 128)
    (λ d a b. concat_lanes (s.lanes - 1) (lane_at s d a b)) []
    → MadeConst w1 r1.count w2 r2 0 0 s.lanes
    → MadeCompare w2 r2.count w3 r3 Eq r1.node r2.node
    → MadeConst w3 r3.count w4 r4 1 0 1
    → MadeIte w4 r4.count w5 r5 r3.node before r4.node
    → BitMade w0 k w5 r5 s first second d before
unfolding instruction_bit
instruction {w0} {w1} {k = k} {r1 = r1} {first = first} {second = second} {d = d} {before = before} s l m e1 e2 e3 e4 e5 =
    let f1 = subst (λ (w : ℕ). Lowers w0 k w1 r1 (38 * s.lanes) w (read_if (reads_old s.op) d 128) (read first 128) (read_if (reads_second s.op) second 128)
    (λ d a b. concat_lanes (s.lanes - 1) (lane_at s d a b)) []) {x = 1 * s.lanes} {y = s.lanes} (omega arith) e1 in
    record {
      sized = omega (arith, e1.sized, e2.sized, e3.sized, e4.sized, e5.sized);
      made = λ {td} {ta} {tb} {t} v x y z b.
          let s0 = start v (given before.0 1 t ∷ []) (b, tt) in
          let s1 = step s0 [] (f1.made {td = td} {ta = ta} {tb = tb} s0.valid x y z) in
          let s2 = step s1 [] (e2.made s1.valid l (omega arith) refl (pow_pos s.lanes)) in
          let s3 = step s2 (1 ∷ 0 ∷ []) (e3.made s2.valid l s2.env.1.0 s2.env.0) in
          let s4 = step s3 [] (e4.made s3.valid (omega arith) (omega arith) refl (omega arith)) in
          finish (step s4 (1 ∷ 4 ∷ 0 ∷ []) (e5.made s4.valid (omega arith) (omega arith) s4.env.1.0 s4.env.1.1.1.1.0 s4.env.0)) tt;
    }
