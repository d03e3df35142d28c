use mathlib.Core.Logic.{inl, inr}
use mathlib.Core.Path.{sym, ◌∙◌}
use Rattle.lower_kinds.specs.Sources.{uses_second}
use Rattle.lower_saturating.proofs.Joining.{Second, at-lane}
use Rattle.lower_saturating.proofs.SaturatedLanes.make.Goals.{then-uses_second, else-uses_second}
use Rattle.lower_saturating.proofs.SaturatedLanes.make.Goals as goal

pub returns : goal.returns
returns c =
    let s = c.args.self.now in
    let a = c.extract_lane-a in
    let j = c.if-uses_second in
    let e = sym c.uses_second.ensures in
    let second : Second a.new.pool a.result j.pool j.b (uses_second s.kind) s.second c.source_bits-bits.result c.args.index.0 =
    elim j.branch [
      | then-uses_second w ↦ inl (e ∙ w.if-uses_second.true, rw (w.pool-is, w.b-is) w.extract_lane-b.ensures)
      | else-uses_second w ↦ inr (e ∙ w.if-uses_second.false, w.pool-is, w.b-is)
    ] in
    at-lane s.kind s.signed_sources c.requires.ready.1 c.source_bits-bits.ensures a.ensures second c.saturating_lane.ensures
