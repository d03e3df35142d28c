-- saturable_kind: a kind saturates if it has a range.
use mathlib.Core.Path.{ap, ◌∙◌}
use Rattle.saturation.specs.Bits.{saturable_to}
use borrow.Author.Rules.{rules}
use Rattle.saturation_record.proofs.saturable_kind.Statement.{statement}
use Rattle.saturation_record.proofs.saturable_kind.Tie as tie

kind-to-requires : tie.Need-kind_to-range-requires
kind-to-requires c κs = search rules

clamps-requires : tie.Need-clamps-requires
clamps-requires c κs = search rules

returns : tie.Need-returns
returns c =
    c.clamps.ensures ∙ ap saturable_to c.kind_to-range.ensures

pub saturable_kind_spec : {M : Type 1} → statement M
saturable_kind_spec = tie.close (tie.spec kind-to-requires clamps-requires returns)
