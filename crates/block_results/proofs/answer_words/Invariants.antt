-- After r turns the first r words are the nodes of registers 0 to r - 1.
use Rattle.std.proofs.Common.{◌≡◌, replicate}
use lib.Seq.{sets}
use Rattle.block_results.specs.Words.{nodes_of}
use Rattle.block_results.proofs.answer_words.Given as goal

abbrev pub invariant-loop-r : goal.invariant-loop-r
invariant-loop-r l = l.words ≡ sets (replicate 34 0) 0 (nodes_of l.map 0 l.r)
