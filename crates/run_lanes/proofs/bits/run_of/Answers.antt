use native.Mathlib.Omega.{arith}
use mathlib.Core.Path.{◌≡◌, refl, ap, ◌∙◌}
use Prim.Native.Nat.{ℕ}
use Rattle.neon.specs.Arm.{equal_run}
use Rattle.run_lanes.proofs.Counts.{run-stop, run_more}
use Rattle.run_lanes.proofs.bits.run_of.Goals as goal

pub returns-then-bit-t : goal.returns-then-bit-t
returns-then-bit-t c =
    let a = c.args in
    omega (arith, c.loop-j.invariant, run-stop a.t c.loop-j.j a.a (omega arith) c.bit.ensures.0 c.if-bit-t.true)

pub loop-j-preserved : goal.loop-j-preserved
loop-j-preserved c =
    let a = c.args in
    omega (arith, c.loop-j.invariant, run_more a.t c.loop-j.j a.a (omega arith) c.bit.ensures.0 c.if-bit-t.false)

pub returns : goal.returns
returns c =
    let a = c.args in
    let e : c.loop-j.j ≡ 0 = omega arith in
    let z : equal_run a.t c.loop-j.j a.a ≡ 0 = ap (λ (x : ℕ). equal_run a.t x a.a) e ∙ unfold equal_run in refl in
    omega (arith, c.loop-j.invariant)
