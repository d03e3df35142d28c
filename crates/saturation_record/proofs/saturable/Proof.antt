-- saturable: each family and its flags.
use mathlib.Core.Path.{sym, ap, ◌∙◌}
use Rattle.saturation.specs.Bits.{saturable}
use borrow.Author.Rules.{rules}
use Rattle.saturation_record.proofs.saturable.Statement.{statement}
use Rattle.saturation_record.proofs.saturable.Tie as tie

enum-known-op : tie.Need-enum_known-op
enum-known-op c = search rules

saturable-shift-requires : tie.Need-saturable_shift-requires
saturable-shift-requires c κs = search rules

enum_told : tie.Need-enum_told-1
enum_told c = search rules

enum-told-2 : tie.Need-enum_told-in-MixedSignAdd
enum-told-2 c = search rules

enum-told-3 : tie.Need-enum_told-in-DoublingLong
enum-told-3 c = search rules

enum-known-op-2 : tie.Need-enum_known-op-in-Saturating-1
enum-known-op-2 c = search rules

saturable-kind-requires : tie.Need-saturable_kind-requires
saturable-kind-requires c κs = search rules

enum-told-4 : tie.Need-enum_told-in-BitwiseUnary
enum-told-4 c = search rules

enum-told-5 : tie.Need-enum_told-in-AbsoluteDifference
enum-told-5 c = search rules

enum-told-6 : tie.Need-enum_told-in-HighNarrow
enum-told-6 c = search rules

returns : tie.Need-returns-in-Shift
returns c = search rules

returns-2 : tie.Need-returns-in-ShiftInsert
returns-2 c = search rules

returns-3 : tie.Need-returns-in-MixedSignAdd
returns-3 c = search rules

returns-4 : tie.Need-returns-in-DoublingLong
returns-4 c = search rules

returns-5 : tie.Need-returns-in-Saturating
returns-5 c = c.saturable_kind.ensures ∙ ap saturable (sym c.in-Saturating.is)

returns-6 : tie.Need-returns-in-BitwiseUnary
returns-6 c = search rules

returns-7 : tie.Need-returns-in-AbsoluteDifference
returns-7 c = search rules

returns-8 : tie.Need-returns-in-HighNarrow
returns-8 c = search rules

pub saturable_spec : {M : Type 1} → statement M
saturable_spec =
    tie.close
    (tie.spec
    enum-known-op
    saturable-shift-requires
    enum_told
    enum-told-2
    enum-told-3
    enum-known-op-2
    saturable-kind-requires
    enum-told-4
    enum-told-5
    enum-told-6
    returns
    returns-2
    returns-3
    returns-4
    returns-5
    returns-6
    returns-7
    returns-8)
