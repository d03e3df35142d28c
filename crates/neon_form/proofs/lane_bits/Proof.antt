-- lane_bits is `bits_of_lane` of the arrangement: each arm at its number
use native.Mathlib.Omega.{arith}
use mathlib.Core.Path.{◌≡◌, refl}
use Rattle.neon.specs.Op.{arrangement_at, arrangements}
use Rattle.neon_form.proofs.lane_bits.Statement.{statement}
use Rattle.neon_form.proofs.lane_bits.Tie as tie

returns : tie.Need-returns-in-0
unfolding arrangement_at arrangements
returns c = rw c.in-0.is refl

returns-2 : tie.Need-returns-in-1
unfolding arrangement_at arrangements
returns-2 c = rw c.in-1.is refl

returns-3 : tie.Need-returns-in-2
unfolding arrangement_at arrangements
returns-3 c = rw c.in-2.is refl

returns-4 : tie.Need-returns-in-3
unfolding arrangement_at arrangements
returns-4 c = rw c.in-3.is refl

returns-5 : tie.Need-returns-in-4
unfolding arrangement_at arrangements
returns-5 c = rw c.in-4.is refl

returns-6 : tie.Need-returns-in-5
unfolding arrangement_at arrangements
returns-6 c = rw c.in-5.is refl

returns-7 : tie.Need-returns-in_default
unfolding arrangement_at arrangements
returns-7 c =
    let e : c.args.arrangement ≡ 6 = omega arith in
    rw e refl

pub lane_bits_spec : {M : Type 1} → statement M
lane_bits_spec =
    tie.close (tie.spec returns returns-2 returns-3 returns-4 returns-5 returns-6 returns-7)
