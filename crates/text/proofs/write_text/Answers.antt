-- `write_text` meets its contract: the pool and the node are good, and a text that fits is written.
use mathlib.Core.List.{List}
use mathlib.Core.Path.{◌≡◌, refl, sym}
use Prim.Native.Nat.{ℕ, ◌≤◌}
use native.Mathlib.Omega.{arith}
use lib.ListN.{length}
use Rattle.pool.specs.Rules.{node_number}
use Rattle.pool_check.proofs.Number.{accepted}
use Rattle.text_parts.specs.Text.{text, Ready}
use Rattle.text_length.proofs.Answers.{ready}
use Rattle.text.proofs.Answers.{fits, written, in-front}
use Rattle.text.proofs.write_text.Goals as goal

whole : (ws : List ℕ) (count n : ℕ) → 0 ≡ node_number ws count n 0 → Ready ws n
whole ws count n e = let k = accepted ws count n 0 (sym e) in ready ws count n k.0 k.1

pub left_after_text-left-requires : goal.left_after_text-left-requires
left_after_text-left-requires c = whole c.args.pool.now c.args.count c.args.node c.in_ok-node_number.ensures

pub write_known-requires-clause-ready : goal.write_known-requires-clause-ready
write_known-requires-clause-ready c = whole c.args.pool.now c.args.count c.args.node c.in_ok-node_number.ensures

pub returns : goal.returns
returns c =
    let a = c.args in
    let enough : length (text a.pool.now a.node) ≤ length a.buffer.now = omega arith in
    let k = accepted a.pool.now a.count a.node 0 (sym c.in_ok-node_number.ensures) in
    written a.pool.now a.count a.node refl (fits a.pool.now a.count a.node (length a.buffer.now) k.0 k.1 enough) (omega arith)
    (in-front c.write_known.ensures enough)
