-- exact_lane: each kind's arm builds its exact value.
use mathlib.Core.Path.{refl}
use Rattle.lower_exact.proofs.Exactly.{is-narrow}
use Rattle.lower_exact.proofs.exact_lane.Goals as goal

pub returns-in-Narrow : goal.returns-in-Narrow
returns-in-Narrow c =
    is-narrow c.args.lane_bits c.args.signed_sources c.in-Narrow.is c.requires.a_lt_count.0 refl refl
