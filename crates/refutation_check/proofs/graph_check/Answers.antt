use Rattle.std.proofs.Common.{◌≡◌, ◌<◌, ◌≤◌, ℕ, List, length, take, sym, arith}
use lib.Seq.{get_or-take, length-take-le}
use Rattle.refutation_check.proofs.Graph.{no-gates, gates-more, left-bad, right-bad, graph-short, graph-good}
use Rattle.refutation_check.proofs.graph_check.Goals as goal

-- the gates that the loop goes over
before-count : (g : List ℕ) (count n : ℕ) → count ≤ length g → n < length (take count g) → n < count
before-count g count n h l = let e = length-take-le count g h in omega arith

pub returns-then-graph-count : goal.returns-then-graph-count
returns-then-graph-count c = sym (graph-short c.args.graph.now c.args.count c.if-graph-count.true)

pub loop-n-init : goal.loop-n-init
loop-n-init c = no-gates c.args.graph.now

pub returns-then-limit-left_of : goal.returns-then-limit-left_of
returns-then-limit-left_of c =
    let a = c.args in
    let n = c.loop-n.n in
    let l = before-count a.graph.now a.count n c.if-graph-count.false c.loop-n-test.true in
    sym (left-bad a.graph.now a.count n l (rw (c.left_of.ensures, get_or-take a.count a.graph.now n 0 l) at c.if-limit-left_of.true))

pub returns-then-limit-right_of : goal.returns-then-limit-right_of
returns-then-limit-right_of c =
    let a = c.args in
    let n = c.loop-n.n in
    let l = before-count a.graph.now a.count n c.if-graph-count.false c.loop-n-test.true in
    sym (right-bad a.graph.now a.count n l (rw (c.right_of.ensures, get_or-take a.count a.graph.now n 0 l) at c.if-limit-right_of.true))

pub loop-n-preserved : goal.loop-n-preserved
loop-n-preserved c =
    let a = c.args in
    let n = c.loop-n.n in
    let l = before-count a.graph.now a.count n c.if-graph-count.false c.loop-n-test.true in
    let same = get_or-take a.count a.graph.now n 0 l in
    gates-more a.graph.now n c.loop-n.invariant (rw (c.left_of.ensures, same) at c.if-limit-left_of.false) (rw (c.right_of.ensures, same) at c.if-limit-right_of.false)

pub returns : goal.returns
returns c =
    let a = c.args in
    let e = length-take-le a.count a.graph.now c.if-graph-count.false in
    let all : c.loop-n.n ≡ a.count = omega (arith, e, c.loop-n-test.false, c.loop-n.auto.n-end) in
    sym (graph-good a.graph.now a.count c.if-graph-count.false (rw all at c.loop-n.invariant))
