-- `answer_words` meets its contract: the nodes of all registers, then the count and the position.
use Rattle.std.proofs.Common.{◌≡◌, ◌∙◌, ap, refl, List, ℕ, arith, slice_set, replicate}
use lib.Seq.{sets}
use Rattle.block_results.specs.Words.{nodes_of}
use Rattle.block_results.proofs.Putting.{put-node, put_all}
use Rattle.block_results.proofs.answer_words.Goals as goal

pub loop-r-init : goal.loop-r-init
unfolding nodes_of
loop-r-init c = refl

pub loop-r-preserved : goal.loop-r-preserved
loop-r-preserved c =
    let m = c.args.map in
    let r = c.loop-r.r in
    ap (λ (l : List ℕ). slice_set l r c.get-node.result.0) c.loop-r.invariant
    ∙ ap (λ (x : ℕ). slice_set (sets (replicate 34 0) 0 (nodes_of m 0 r)) r x) c.get-node.ensures
    ∙ put-node (replicate 34 0) m r

pub returns : goal.returns
returns c =
    let all : c.loop-r.r ≡ 32 = omega arith in
    ap (λ (l : List ℕ). slice_set (slice_set l 32 c.args.map.count) 33 c.args.position)
    (c.loop-r.invariant ∙ ap (λ (k : ℕ). sets (replicate 34 0) 0 (nodes_of c.args.map 0 k)) all)
    ∙ put_all c.args.map c.args.position
