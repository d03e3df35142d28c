-- `text_length::nodes::known_length` meets its contract: a node's own characters, and the lengths kept of its operands.
use mathlib.Core.Bool.{false}
use mathlib.Core.List.{List}
use mathlib.Core.Path.{◌≡◌, sym, ◌∙◌}
use Prim.Native.Nat.{ℕ, ◌+◌, ◌≤◌, ◌<◌, min}
use native.Mathlib.Omega.{arith}
use lib.ListN.{length, get_or}
use Rattle.pool_fields.specs.Fields.{op_a, op_b, op_c}
use Rattle.text_parts.specs.Text.{text, single}
use Rattle.text_parts.proofs.Operands.{ite-c}
use Rattle.text_length.specs.Known.{Kept}
use Rattle.text_length.proofs.Kept.{kept}
use Rattle.text_length.proofs.Sizes.{a-range, an-extension, an-operator, a-concat, not-single, concat-own, first-less, second-less, single-size, pair_size, ite-size}
use borrow.Author.Rules.{rules}
use Rattle.text_length.proofs.nodes.known_length.Statement.{statement}
use Rattle.text_length.proofs.nodes.known_length.Tie as tie

abbrev pool : tie.Start → List ℕ
pool s = s.args.p.now

abbrev node : tie.Start → ℕ
node s = s.args.n.0

-- the kind is read
abbrev kind : tie.After-kind_of-k → ℕ
kind c = c.kind_of-k.result

-- ---- places: the entry from a node that is no leaf, and where it is found to be none

-- ---- what is known there

-- an earlier node has a place, and its length is known
held : (e : tie.Else-k-lt-ADD) {m : ℕ} → m < node e.before.before.before.before → Kept e.args.lengths.now m
held e l = let s = e in kept s.requires.1.1 s.requires.1.0 l

known : (e : tie.Else-k-lt-ADD) {m : ℕ} → m < node e.before.before.before.before → let s = e in get_or s.args.lengths.now m 0 ≡ min (length (text (pool e.before.before.before.before) m)) s.args.b
known e {m} l = e.requires.1.1.at m l

-- a kind from 3 on has a first operand, and one that is not single a second
one : (e : tie.Else-k-lt-ADD) → let s = e in op_a (pool e.before.before.before.before) (node e.before.before.before.before) < node e.before.before.before.before
one e = let s = e in first-less (pool e.before.before.before.before) (node e.before.before.before.before) s.requires.0 _ e.kind_of-k.ensures e.if-k-lt-ADD.false

two : (e : tie.Else-k-lt-ADD) → single (kind e.before) ≡ false → let s = e in op_b (pool e.before.before.before.before) (node e.before.before.before.before) < node e.before.before.before.before
two e f = let s = e in second-less (pool e.before.before.before.before) (node e.before.before.before.before) s.requires.0 _ e.kind_of-k.ensures e.if-k-lt-ADD.false f

-- an operator
operator-is : (c : tie.Then-k-lt-ITE) → single (kind c.before.before) ≡ false
operator-is c = not-single {k = kind c.before.before} (λ e. omega (arith, e, c.if-k-lt-ITE.true)) (omega (arith, c.if-k-lt-ITE.true))

-- an Ite or a Concat
joins-is : (c : tie.Else-k-ge-ZERO_EXTEND) → single (kind c.before.before.before.before) ≡ false
joins-is c = not-single c.if-k-eq-EXTRACT.false c.if-k-ge-ZERO_EXTEND.false

-- an Ite's third operand
three : (c : tie.Then-k-eq-ITE) → let s = c in op_c (pool c.before.before.before.before.before.before.before.before.before) (node c.before.before.before.before.before.before.before.before.before) < node c.before.before.before.before.before.before.before.before.before
three c =
    let e = c in
    let s = c in
    (ite-c (pool c.before.before.before.before.before.before.before.before.before) (node c.before.before.before.before.before.before.before.before.before) s.requires.0 _ e.kind_of-k.ensures c.if-k-eq-ITE.true).before

-- ---- needs

kind-of-requires : tie.Need-kind_of-k-requires
kind-of-requires c κs = search rules

leaf-length-requires : tie.Need-leaf_length-requires
leaf-length-requires c κs = search rules

least-requires : tie.Need-min-requires
least-requires c κs = search rules

returns : tie.Need-returns-then-k-lt-ADD
returns c = search rules

two-lengths-requires : tie.Need-two_lengths-requires
two-lengths-requires c κs = let e = c in (e.requires.0.inside, (held e.before (one c.before), held e.before (two c.before (operator-is c))))

operator-characters-requires : tie.Need-operator_characters-requires
operator-characters-requires c κs = search rules

add-least : tie.Need-overflow_add-two_lengths
add-least c =
    let o = c in
    let e = c in
    omega (arith, o.two_lengths.ensures, c.operator_characters.ensures.1, (held e.before.before.before (one c.before.before.before)).small, (held e.before.before.before (two c.before.before.before (operator-is c.before.before))).small)

least-requires-2 : tie.Need-min-requires-then-k-lt-ITE
least-requires-2 c κs = search rules

returns-2 : tie.Need-returns-then-k-lt-ITE
returns-2 c =
    let o = c in
    let e = c in
    let s = c in
    let z = pair_size (pool c.before.before.before.before.before.before.before.before) (node c.before.before.before.before.before.before.before.before) s.requires.0 _ e.kind_of-k.ensures (an-operator e.if-k-lt-ADD.false o.if-k-lt-ITE.true) in
    omega
    (arith, c.min-then-k-lt-ITE.ensures, o.two_lengths.ensures, c.operator_characters.ensures.0, known e.before.before.before.before (one c.before.before.before.before), known e.before.before.before.before (two c.before.before.before.before (operator-is c.before.before.before)), z)

first-requires : tie.Need-first-requires
first-requires c κs = search rules

length-at-requires : tie.Need-length_at-requires
length-at-requires c κs = let e = c in rw c.first.ensures (held e.before.before.before (one c.before.before.before)).below

range-length-requires : tie.Need-range_length-requires
range-length-requires c κs =
    let e = c in
    (e.requires.0, sym e.kind_of-k.ensures ∙ c.if-k-eq-EXTRACT.true)

add-least-2 : tie.Need-overflow_add-length_at
add-least-2 c =
    let r = c in
    let e = c in
    omega (arith, (held e.before.before.before.before.before (one c.before.before.before.before.before)).small, rw r.first.ensures at r.length_at.ensures, c.range_length.ensures.1)

least-requires-3 : tie.Need-min-requires-then-k-eq-EXTRACT
least-requires-3 c κs = search rules

returns-3 : tie.Need-returns-then-k-eq-EXTRACT
returns-3 c =
    let r = c in
    let e = c in
    let s = c in
    let x = rw (← e.kind_of-k.ensures) at c.range_length.ensures.0 in
    let z = single-size (pool c.before.before.before.before.before.before.before.before.before.before) (node c.before.before.before.before.before.before.before.before.before.before) s.requires.0 _ e.kind_of-k.ensures (a-range r.if-k-eq-EXTRACT.true) in
    omega (arith, c.min-then-k-eq-EXTRACT.ensures, known e.before.before.before.before.before.before (one c.before.before.before.before.before.before), rw r.first.ensures at r.length_at.ensures, x, z)

first-requires-2 : tie.Need-first-requires-then-k-ge-ZERO_EXTEND
first-requires-2 c κs = search rules

length-at-requires-2 : tie.Need-length_at-requires-then-k-ge-ZERO_EXTEND
length-at-requires-2 c κs = let e = c in rw c.first-then-k-ge-ZERO_EXTEND.ensures (held e.before.before.before.before (one c.before.before.before.before)).below

extension-length-requires : tie.Need-extension_length-requires
extension-length-requires c κs =
    let e = c in
    (e.requires.0, rw (← e.kind_of-k.ensures) c.if-k-ge-ZERO_EXTEND.true)

add-least-3 : tie.Need-overflow_add-length_at-then-k-ge-ZERO_EXTEND
add-least-3 c =
    let x = c in
    let e = c in
    omega (arith, (held e.before.before.before.before.before.before (one c.before.before.before.before.before.before)).small, rw x.first-then-k-ge-ZERO_EXTEND.ensures at x.length_at-then-k-ge-ZERO_EXTEND.ensures, c.extension_length.ensures.1)

least-requires-4 : tie.Need-min-requires-then-k-ge-ZERO_EXTEND
least-requires-4 c κs = search rules

returns-4 : tie.Need-returns-then-k-ge-ZERO_EXTEND
returns-4 c =
    let l = c in
    let e = c in
    let s = c in
    let x = rw (← e.kind_of-k.ensures) at c.extension_length.ensures.0 in
    let z = single-size (pool c.before.before.before.before.before.before.before.before.before.before.before) (node c.before.before.before.before.before.before.before.before.before.before.before) s.requires.0 _ e.kind_of-k.ensures (an-extension l.if-k-ge-ZERO_EXTEND.true) in
    omega (arith, c.min-then-k-ge-ZERO_EXTEND.ensures, known e.before.before.before.before.before.before.before (one c.before.before.before.before.before.before.before), rw l.first-then-k-ge-ZERO_EXTEND.ensures at l.length_at-then-k-ge-ZERO_EXTEND.ensures, x, z)

two-lengths-requires-2 : tie.Need-two_lengths-two-requires
two-lengths-requires-2 c κs = let e = c in (e.requires.0.inside, (held e.before.before.before (one c.before.before.before), held e.before.before.before (two c.before.before.before (joins-is c))))

third-requires : tie.Need-third-requires
third-requires c κs = search rules

length-at-requires-3 : tie.Need-length_at-requires-then-k-eq-ITE
length-at-requires-3 c κs = rw c.third.ensures (held c.before.before.before.before.before.before (three c.before)).below

-- the two lengths of an Ite or a Concat have a sum, and the three of an Ite
pair-sum : (c : tie.After-two_lengths-two) → c.two_lengths-two.result ≤ 8589934592
pair-sum c = let e = c in omega (arith, c.two_lengths-two.ensures, (held e.before.before.before.before (one c.before.before.before.before)).small, (held e.before.before.before.before (two c.before.before.before.before (joins-is c.before))).small)

sum : (c : tie.After-length_at-then-k-eq-ITE) → c.two_lengths-two.result + c.length_at-then-k-eq-ITE.result ≤ 12884901888
sum c =
    let z = rw c.third.ensures at c.length_at-then-k-eq-ITE.ensures in
    omega (arith, pair-sum c.before.before.before, z, (held c.before.before.before.before.before.before.before (three c.before.before)).small)

add-least-4 : tie.Need-overflow_add-two
add-least-4 c = omega (arith, sum c)

add-least-5 : tie.Need-overflow_add-two-then-k-eq-ITE
add-least-5 c = omega (arith, sum c)

least-requires-5 : tie.Need-min-requires-then-k-eq-ITE
least-requires-5 c κs = search rules

returns-5 : tie.Need-returns-then-k-eq-ITE
returns-5 c =
    let l = c in
    let i = c in
    let t = c in
    let e = c in
    let s = c in
    let x = rw l.third.ensures at l.length_at-then-k-eq-ITE.ensures in
    let z = ite-size (pool c.before.before.before.before.before.before.before.before.before.before.before.before) (node c.before.before.before.before.before.before.before.before.before.before.before.before) s.requires.0 _ e.kind_of-k.ensures i.if-k-eq-ITE.true in
    omega (arith, c.min-then-k-eq-ITE.ensures, t.two_lengths-two.ensures, x, known e.before.before.before.before.before.before.before.before (one c.before.before.before.before.before.before.before.before), known e.before.before.before.before.before.before.before.before (two c.before.before.before.before.before.before.before.before (joins-is c.before.before.before.before.before)), known e.before.before.before.before.before.before.before.before (three c.before.before.before), z)

add-least-6 : tie.Need-overflow_add-two-2
add-least-6 c = omega (arith, pair-sum c.before)

least-requires-6 : tie.Need-min-requires-2
least-requires-6 c κs = search rules

returns-6 : tie.Need-returns
returns-6 c =
    let i = c in
    let t = c in
    let j = c in
    let e = c in
    let s = c in
    let k : kind c.before.before.before.before.before.before.before ≡ 17 = omega (arith, j.if-k-lt-ITE.false, j.if-k-eq-EXTRACT.false, j.if-k-ge-ZERO_EXTEND.false, i.if-k-eq-ITE.false) in
    let z = pair_size (pool c.before.before.before.before.before.before.before.before.before.before) (node c.before.before.before.before.before.before.before.before.before.before) s.requires.0 _ e.kind_of-k.ensures (a-concat k) in
    omega (arith, c.min-2.ensures, t.two_lengths-two.ensures, known e.before.before.before.before.before.before (one c.before.before.before.before.before.before), known e.before.before.before.before.before.before (two c.before.before.before.before.before.before (joins-is c.before.before.before)), concat-own k, z)

pub known_length_spec : {M : Type 1} → statement M
known_length_spec =
    tie.close
    (tie.spec
    kind-of-requires
    leaf-length-requires
    least-requires
    returns
    two-lengths-requires
    operator-characters-requires
    add-least
    least-requires-2
    returns-2
    first-requires
    length-at-requires
    range-length-requires
    add-least-2
    least-requires-3
    returns-3
    first-requires-2
    length-at-requires-2
    extension-length-requires
    add-least-3
    least-requires-4
    returns-4
    two-lengths-requires-2
    third-requires
    length-at-requires-3
    add-least-4
    add-least-5
    least-requires-5
    returns-5
    add-least-6
    least-requires-6
    returns-6)
