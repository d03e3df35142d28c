use mathlib.Core.Path.{sym, ◌∙◌}
use Rattle.lower_shift.proofs.Lanes.{at_register, at-immediate}
use Rattle.lower_shift.proofs.ShiftsLanes.make.Goals as goal

pub returns-then-is_register : goal.returns-then-is_register
returns-then-is_register c =
    let s = c.args.self.now in
    at_register s.kind s.signed c.requires.ready.1 s.fits.2 (sym c.is_register.ensures ∙ c.if-is_register.true)
    c.extract_lane-value.ensures c.signed_amount-amount.ensures c.shift_lane.ensures

pub returns : goal.returns
returns c =
    let s = c.args.self.now in
    at-immediate s.kind s.signed c.requires.ready.1 s.fits.2 (sym c.is_register.ensures ∙ c.if-is_register.false)
    c.extract_lane-value.ensures c.shift_lane-2.ensures
