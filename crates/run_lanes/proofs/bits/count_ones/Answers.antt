use native.Mathlib.Omega.{arith}
use mathlib.Core.Path.{◌≡◌, refl, sym, ap, ap₂, ◌∙◌}
use Prim.Native.Nat.{ℕ, ◌+◌}
use Rattle.neon.specs.Arm.{ones}
use Rattle.run_lanes.proofs.Counts.{ones-more}
use Rattle.run_lanes.proofs.bits.count_ones.Goals as goal

pub loop-j-init : goal.loop-j-init
loop-j-init c = record { counted = unfold ones in refl; most = omega arith }

pub loop-j-preserved : goal.loop-j-preserved
loop-j-preserved c = record {
  counted = ap₂ (λ (x y : ℕ). x + y) c.loop-j.invariant.counted c.bit-r.ensures.0 ∙ sym (ones-more c.loop-j.j c.args.a);
  most = omega (arith, c.bit-r.ensures);
}

pub returns : goal.returns
returns c =
    let e : c.loop-j.j ≡ c.args.k = omega arith in
    c.loop-j.invariant.counted ∙ ap (λ (t : ℕ). ones t c.args.a) e
