-- `shift_lane` answers `shift_lane_z` and `shift_beyond` of each of the three kinds: the exact shift, clamped or cut.
use native.Mathlib.Omega.{arith}
use mathlib.Core.Path.{◌≡◌, subst}
use Rattle.run_exact.proofs.Laws.{fitting}
use Rattle.trees.specs.declared.ShiftKind.{ShiftKind}
use Rattle.lower_kinds.specs.Sources.{AmountIn}
use borrow.Author.Rules.{rules}
use Rattle.run_lanes.proofs.shift_lane.Statement.{statement}
use Rattle.run_lanes.proofs.shift_lane.Tie as tie

-- the amount, if the kind is k
amount-in : (s : tie.Start) {k : ShiftKind} → s.args.kind ≡ k → AmountIn k s.args.n
amount-in s e = subst (λ (k : ShiftKind). AmountIn k s.args.n) e s.requires.3

read-requires : tie.Need-read-v-requires
read-requires c κs = search rules

enum-known-kind : tie.Need-enum_known-kind
enum-known-kind c = search rules

scaled-requires : tie.Need-scaled-requires
scaled-requires c κs =
    omega (arith, c.requires, amount-in c.before.before c.in-LeftImmediate.is)

limit-requires : tie.Need-limit-requires
limit-requires c κs = search rules

enum-known-kind-2 : tie.Need-enum_known-kind-in-RightImmediate-1
enum-known-kind-2 c = search rules

right-requires : tie.Need-right-requires
right-requires c κs =
    omega (arith, c.requires, amount-in c.before.before c.in-RightImmediate.is)

limit-requires-2 : tie.Need-limit-requires-in-RightImmediate
limit-requires-2 c κs = search rules

enum-known-kind-3 : tie.Need-enum_known-kind-in-Register-1
enum-known-kind-3 c = search rules

own-range-requires : tie.Need-own_range-requires
own-range-requires c κs = search rules

turn-requires : tie.Need-turn-requires
turn-requires c κs = search rules

limit-requires-3 : tie.Need-limit-requires-in-Register
limit-requires-3 c κs = search rules

returns : tie.Need-returns-in-LeftImmediate
returns c =
    let at-kind = c in
    let s = c in
    let amount = amount-in c.before.before.before.before at-kind.in-LeftImmediate.is in
    rw at-kind.in-LeftImmediate.is (c.limit.ensures _ (fitting (omega (arith, s.requires, amount))
    (c.scaled.ensures 65 _ (omega arith) at-kind.read-v.ensures)))

returns-2 : tie.Need-returns-in-RightImmediate
returns-2 c =
    let at-kind2 = c in
    rw at-kind2.in-RightImmediate.is (c.limit-in-RightImmediate.ensures _ (fitting (omega arith)
    (c.right.ensures 65 _ (omega arith) at-kind2.read-v.ensures)))

returns-3 : tie.Need-returns-in-Register
returns-3 c =
    let at-own-range = c in
    let at-kind3 = c in
    rw at-kind3.in-Register.is (rw at-own-range.own_range.ensures
    at (c.limit-in-Register.ensures _ (c.turn.ensures _ at-kind3.read-v.ensures)))

pub shift_lane_spec : {M : Type 1} → statement M
shift_lane_spec =
    tie.close
    (tie.spec
    read-requires
    enum-known-kind
    scaled-requires
    limit-requires
    enum-known-kind-2
    right-requires
    limit-requires-2
    enum-known-kind-3
    own-range-requires
    turn-requires
    limit-requires-3
    returns
    returns-2
    returns-3)
