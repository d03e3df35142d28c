-- ite_ok is the rule of an Ite
use Prim.Native.Nat.{◌<◌}
use native.Mathlib.Omega.{arith}
use Rattle.pool_rules.proofs.At.{Own, width-before, set_before, ite-at, ite-late-a, ite-late-b, ite-late-c}
use borrow.Author.Rules.{rules}
use Rattle.pool_rules.proofs.ite_ok.Statement.{statement}
use Rattle.pool_rules.proofs.ite_ok.Tie as tie

first-requires : tie.Need-first-a-requires
first-requires c κs = search rules

second-requires : tie.Need-second-b-requires
second-requires c κs = search rules

third-requires : tie.Need-third-c-requires
third-requires c κs = search rules

returns : tie.Need-returns-then-n-a
returns c =
    let first = c in
    let st = c in
    ite-late-a st.args.p.now st.args.n.0 (omega (arith, first.first-a.ensures, c.if-n-a.true))

returns-2 : tie.Need-returns-then-n-b
returns-2 c =
    let l-second = c in
    let st = c in
    ite-late-b st.args.p.now st.args.n.0 (omega (arith, l-second.second-b.ensures, c.if-n-b.true))

returns-3 : tie.Need-returns-then-n-c
returns-3 c =
    let l-third = c in
    let st = c in
    ite-late-c st.args.p.now st.args.n.0 (omega (arith, l-third.third-c.ensures, c.if-n-c.true))

width-of-requires : tie.Need-width_of-width-requires
width-of-requires c κs = search rules

low-requires : tie.Need-low-requires
low-requires c κs = search rules

high-requires : tie.Need-high-requires
high-requires c κs = search rules

width-of-requires-2 : tie.Need-width_of-requires
width-of-requires-2 c κs = search rules

width-of-requires-3 : tie.Need-width_of-requires-2
width-of-requires-3 c κs = search rules

width-of-requires-4 : tie.Need-width_of-requires-3
width-of-requires-4 c κs = search rules

set-of-requires : tie.Need-set_of-requires
set-of-requires c κs = search rules

set-of-requires-2 : tie.Need-set_of-requires-2
set-of-requires-2 c κs = search rules

set-of-requires-3 : tie.Need-set_of-requires-3
set-of-requires-3 c κs = search rules

set-of-requires-4 : tie.Need-set_of-requires-4
set-of-requires-4 c κs = search rules

returns-4 : tie.Need-returns
returns-4 c =
    let l-set-of4 = c in
    let l-set-of3 = l-set-of4.before in
    let l-set-of2 = l-set-of3.before in
    let l-set-of = l-set-of2.before in
    let l-width-of4 = l-set-of.before in
    let l-width-of3 = l-width-of4.before in
    let l-width-of2 = l-width-of3.before in
    let l-high = l-width-of2.before in
    let l-low = l-high.before in
    let l-width-of = l-low.before in
    let l-if3 = l-width-of.before in
    let l-if2 = l-if3.before.before.before in
    let l-if1 = l-if2.before.before.before in
    let l-third = l-if1.before.before.before in
    let l-second = l-third.before in
    let l-first = l-second.before in
    let st = l-first.before.before in
    let ws = st.args.p.now in
    let n = st.args.n.0 in
    let own : Own ws n l-width-of.width_of-width.result l-low.low.result l-high.high.result l-set-of.set_of.result =
    record { width_is = l-width-of.width_of-width.ensures.0; x-is = l-low.low.ensures; y-is = l-high.high.ensures; set_is = l-set-of.set_of.ensures.0 } in
    let la : l-first.first-a.result.0 < n = omega (arith, l-if1.if-n-a.false) in
    let lb : l-second.second-b.result.0 < n = omega (arith, l-if2.if-n-b.false) in
    let lc : l-third.third-c.result.0 < n = omega (arith, l-if3.if-n-c.false) in
    let ea = l-first.first-a.ensures in
    let eb = l-second.second-b.ensures in
    let ec = l-third.third-c.ensures in
    ite-at ws n own (rw ea at la) (rw eb at lb) (rw ec at lc) (width-before ws n ea la l-width-of2.width_of.ensures.0)
    (width-before ws n eb lb l-width-of3.width_of-2.ensures.0) (width-before ws n ec lc l-width-of4.width_of-3.ensures.0)
    (set_before ws n ea la l-set-of2.set_of-2.ensures.0) (set_before ws n eb lb l-set-of3.set_of-3.ensures.0) (set_before ws n ec lc l-set-of4.set_of-4.ensures.0)

pub ite_ok_spec : {M : Type 1} → statement M
ite_ok_spec =
    tie.close
    (tie.spec
    first-requires
    second-requires
    third-requires
    returns
    returns-2
    returns-3
    width-of-requires
    low-requires
    high-requires
    width-of-requires-2
    width-of-requires-3
    width-of-requires-4
    set-of-requires
    set-of-requires-2
    set-of-requires-3
    set-of-requires-4
    returns-4)
