-- `insert_lane` gives `insert_lane_z` of SLI and SRI: the shifted bits and the bits of d that stay do not meet.
use native.Mathlib.Omega.{arith}
use mathlib.Core.Path.{◌≡◌, ap₂, subst, ◌∙◌}
use mathlib.Core.Bool.{Bool}
use native.Mathlib.Nat.{mod-le}
use Prim.Native.Nat.{ℕ, ◌+◌, ◌-◌, ◌^◌, ◌≤◌, ◌<◌}
use lib.IntN.{pos}
use Rattle.neon.specs.Arm.{wrap, floor, scale}
use Rattle.run_lanes.specs.Rows.{InsertIn}
use Rattle.run_lanes.proofs.Counts.{word, left-fits, right-fits, right_is}
use borrow.Author.Rules.{rules}
use Rattle.run_lanes.proofs.insert_lane.Statement.{statement}
use Rattle.run_lanes.proofs.insert_lane.Tie as tie

-- ---- to the left: the amount, and the shifted bits

left-amount : (c : tie.Then-left) → let a = c.args in a.shift < a.n
left-amount c = let a = c.args in subst (λ (t : Bool). InsertIn t a.shift a.n) c.if-left.true c.requires.4

left-kept : (c : tie.After-keep) → let a = c.args in c.keep.result ≡ wrap a.n (scale (pos a.a) a.shift)
left-kept c = c.keep.ensures _ _ (c.scaled.ensures 65 _ (omega arith) c.unsigned.ensures)

-- ---- to the right: the amount, the low bits of d, and the shifted bits

right-amount : (c : tie.Else-left) → let a = c.args in (0 < a.shift) × (a.shift ≤ a.n)
right-amount c = let a = c.args in subst (λ (t : Bool). InsertIn t a.shift a.n) c.if-left.false c.requires.4

right_kept : (c : tie.After-keep-2) → let a = c.args in c.keep-2.result ≡ wrap a.n (floor (pos a.a) a.shift)
right_kept c =
    let amount = right-amount c.before.before.before.before in
    c.keep-2.ensures _ _ (c.right.ensures 65 _ (omega arith) c.unsigned-2.ensures)

-- ---- needs

unsigned-requires : tie.Need-unsigned-requires
unsigned-requires c κs = search rules

scaled-requires : tie.Need-scaled-requires
scaled-requires c κs = omega (arith, c.requires, left-amount c.before)

keep-requires : tie.Need-keep-requires
keep-requires c κs = search rules

low-bits-requires : tie.Need-low_bits-requires
low-bits-requires c κs = omega (arith, c.requires, left-amount c.before.before.before)

add-result : tie.Need-overflow_add-result
add-result c =
    let l = c in
    let a = l.args in
    let within : a.n ≤ 64 = l.requires.1 in
    let amount = left-amount c.before.before.before.before in
    omega (arith, c.low_bits.ensures, left-kept c.before, word a.n a.shift a.a a.d within, left-fits a.n a.shift a.a a.d within (omega arith))

returns : tie.Need-returns-then-left
returns c = rw c.if-left.true (ap₂ (λ (x y : ℕ). x + y) (left-kept c.before) c.low_bits.ensures)

sub-low-bits : tie.Need-overflow_sub-n
sub-low-bits c = omega (arith, c.requires, right-amount c)

low-bits-requires-2 : tie.Need-low_bits-requires-2
low-bits-requires-2 c κs = search rules

sub-result : tie.Need-overflow_sub-result
sub-result c =
    let s = c in
    omega (arith, c.low_bits-2.ensures, mod-le s.args.d (2 ^ (s.args.n - s.args.shift)))

unsigned-requires-2 : tie.Need-unsigned-requires-2
unsigned-requires-2 c κs = search rules

right-requires : tie.Need-right-requires
right-requires c κs =
    let r = c in
    omega (arith, r.requires, right-amount c.before.before)

keep-requires-2 : tie.Need-keep-requires-2
keep-requires-2 c κs = search rules

add-result-2 : tie.Need-overflow_add-result-2
add-result-2 c =
    let s = c in
    let a = s.args in
    let within : a.n ≤ 64 = s.requires.1 in
    omega (
      arith,
      c.low_bits-2.ensures,
      right_kept c,
      word a.n a.shift a.a a.d within,
      right-fits a.n a.shift a.a a.d within (right-amount c.before.before.before.before).1 s.requires.2 s.requires.3,
    )

returns-2 : tie.Need-returns
returns-2 c =
    let a = c.args in
    rw c.if-left.false (ap₂ (λ (x y : ℕ). a.d - x + y) c.low_bits-2.ensures (right_kept c) ∙ right_is a.n a.shift a.a a.d c.requires.1 _)

pub insert_lane_spec : {M : Type 1} → statement M
insert_lane_spec =
    tie.close
    (tie.spec
    unsigned-requires
    scaled-requires
    keep-requires
    low-bits-requires
    add-result
    returns
    sub-low-bits
    low-bits-requires-2
    sub-result
    unsigned-requires-2
    right-requires
    keep-requires-2
    add-result-2
    returns-2)
