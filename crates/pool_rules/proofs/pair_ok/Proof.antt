-- pair_ok is the rule of each kind of two operands
use mathlib.Core.Path.{◌≡◌}
use Prim.Native.Nat.{ℕ, ◌/◌, ◌<◌, ◌≤◌}
use native.Mathlib.Omega.{arith}
use Rattle.pool.specs.Node.{word_at}
use Rattle.pool_fields.specs.Fields.{op_b, op_c}
use Rattle.pool_rules.proofs.At.{Own, width-before, set_before}
use Rattle.pool_rules.proofs.AtPair.{IsPair, pair-at, late-a, late-rest}
use borrow.Author.Rules.{rules}
use Rattle.pool_rules.proofs.pair_ok.Statement.{statement}
use Rattle.pool_rules.proofs.pair_ok.Tie as tie

is-pair : {k : ℕ} → (3 ≤ k) × (k < 18) × (k ≡ 15 → ⊥) × (k ≡ 16 → ⊥) → IsPair k
is-pair h = record { from = h.0; below = h.1; no-ite = h.2; no_extract = h.3 }

first-requires : tie.Need-first-a-requires
first-requires c κs = search rules

second-and-third-requires : tie.Need-second_and_third-rest-requires
second-and-third-requires c κs = search rules

returns : tie.Need-returns-then-n-a
returns c =
    let l-first = c in
    let st = c in
    late-a st.args.p.now st.args.n.0 st.args.kind (is-pair c.requires.1) (omega (arith, l-first.first-a.ensures, c.if-n-a.true))

returns-2 : tie.Need-returns-then-n-rest
returns-2 c =
    let l-second-and-third = c in
    let st = c in
    late-rest st.args.p.now st.args.n.0 st.args.kind (is-pair c.requires.1) (omega (arith, l-second-and-third.second_and_third-rest.ensures, c.if-n-rest.true))

width-of-requires : tie.Need-width_of-wa-requires
width-of-requires c κs = search rules

width-of-requires-2 : tie.Need-width_of-wb-requires
width-of-requires-2 c κs = search rules

width-of-requires-3 : tie.Need-width_of-width-requires
width-of-requires-3 c κs = search rules

width-over-requires : tie.Need-width_over-requires
width-over-requires c κs = search rules

low-requires : tie.Need-low-requires
low-requires c κs = search rules

high-requires : tie.Need-high-requires
high-requires c κs = search rules

set-of-requires : tie.Need-set_of-requires
set-of-requires c κs = search rules

set-of-requires-2 : tie.Need-set_of-requires-2
set-of-requires-2 c κs = search rules

set-of-requires-3 : tie.Need-set_of-requires-3
set-of-requires-3 c κs = search rules

returns-3 : tie.Need-returns
returns-3 c =
    let l-set-of3 = c in
    let l-set-of2 = l-set-of3.before in
    let l-set-of = l-set-of2.before in
    let l-high = l-set-of.before in
    let l-low = l-high.before in
    let l-width-over = l-low.before in
    let l-width-of3 = l-width-over.before in
    let l-width-of2 = l-width-of3.before in
    let l-width-of = l-width-of2.before in
    let l-if2 = l-width-of.before in
    let l-if1 = l-if2.before in
    let l-second-and-third = l-if1.before.before.before in
    let l-first = l-second-and-third.before in
    let st = c in
    let ws = st.args.p.now in
    let n = st.args.n.0 in
    let own : Own ws n l-width-of3.width_of-width.result l-low.low.result l-high.high.result l-set-of.set_of.result =
    record { width_is = l-width-of3.width_of-width.ensures.0; x-is = l-low.low.ensures; y-is = l-high.high.ensures; set_is = l-set-of.set_of.ensures.0 } in
    let word = l-second-and-third.second_and_third-rest.ensures in
    let la : l-first.first-a.result.0 < n = omega (arith, l-if1.if-n-a.false) in
    let rest : word_at ws n 1 / 65536 < n = omega (arith, word, l-if2.if-n-rest.false) in
    let no-c : op_c ws n ≡ 0 = omega (arith, rest, st.requires.0.1) in
    let at_b : l-second-and-third.second_and_third-rest.result ≡ op_b ws n = omega (arith, word, no-c) in
    let lb : l-second-and-third.second_and_third-rest.result < n = omega (arith, l-if2.if-n-rest.false) in
    pair-at ws n (omega (arith, l-first.first-a.ensures, la)) (rw at_b at lb) no-c st.args.kind (is-pair c.requires.1) own
    (width-before ws n l-first.first-a.ensures la l-width-of.width_of-wa.ensures.0) (width-before ws n at_b lb l-width-of2.width_of-wb.ensures.0)
    (set_before ws n l-first.first-a.ensures la l-set-of2.set_of-2.ensures.0) (set_before ws n at_b lb l-set-of3.set_of-3.ensures.0) l-width-over.width_over.ensures

pub pair_ok_spec : {M : Type 1} → statement M
pair_ok_spec =
    tie.close
    (tie.spec
    first-requires
    second-and-third-requires
    returns
    returns-2
    width-of-requires
    width-of-requires-2
    width-of-requires-3
    width-over-requires
    low-requires
    high-requires
    set-of-requires
    set-of-requires-2
    set-of-requires-3
    returns-3)
