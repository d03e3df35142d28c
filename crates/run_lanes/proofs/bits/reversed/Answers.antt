use native.Mathlib.Omega.{arith}
use mathlib.Core.Path.{◌≡◌, refl, ap, ◌∙◌}
use lib.Pow.{pow_mono}
use Prim.Native.Nat.{ℕ, ◌+◌, ◌-◌, ◌*◌, ◌^◌, ◌<◌, ◌≤◌}
use Rattle.neon.specs.Arm.{bit_at, lanes}
use Rattle.run_lanes.proofs.Counts.{reversed-more, times-bit, next_power}
use Rattle.run_lanes.proofs.bits.reversed.Goals as goal

-- with one bit more, the bits so far are below the next power, which is within a word
grown : (r b p j : ℕ) → r < 2 ^ j → b ≤ 1 → p ≡ 2 ^ j → j < 64 → (r + b * p < 2 ^ (j + 1)) × (2 ^ (j + 1) ≤ 2 ^ 64)
grown r b p j h l e s = (omega (arith, times-bit b p l, next_power j), pow_mono {i = j + 1} {j = 64} (omega arith))

pub loop-j-init : goal.loop-j-init
loop-j-init c = record { placed = unfold lanes in refl; less = omega arith }

pub overflow_mul-r : goal.overflow_mul-r
overflow_mul-r c =
    let g = grown _ _ _ c.loop-j.j c.loop-j.invariant.less c.bit.ensures.1 c.power.ensures (omega arith) in
    omega (arith, g)

pub overflow_add-r : goal.overflow_add-r
overflow_add-r c =
    let g = grown _ _ _ c.loop-j.j c.loop-j.invariant.less c.bit.ensures.1 c.power.ensures (omega arith) in
    omega (arith, g)

pub loop-j-preserved : goal.loop-j-preserved
loop-j-preserved c =
    let a = c.args in
    let l = c.loop-j in
    record {
      placed = reversed-more (λ i. bit_at (a.n - 1 - i) a.a) l.j l.invariant.placed c.bit.ensures.0 c.power.ensures;
      less = (grown _ _ _ l.j l.invariant.less c.bit.ensures.1 c.power.ensures (omega arith)).0;
    }

pub returns : goal.returns
returns c =
    let a = c.args in
    let e : c.loop-j.j ≡ a.n = omega arith in
    c.loop-j.invariant.placed ∙ ap (λ (t : ℕ). lanes 1 t (λ i. bit_at (a.n - 1 - i) a.a)) e
