-- `shr` gives the number divided by 2^k: a shift by whole words, then one inside a word.
use Rattle.std.proofs.Common.{◌∙◌, arith}
use Rattle.wide.proofs.Shifts.{word-right, words_right}
use Rattle.wide.proofs.shr.Goals as goal

pub returns-then-k-lt128 : goal.returns-then-k-lt128
returns-then-k-lt128 c = c.shr_bits-then-k-lt128.ensures ∙ word-right _ (omega arith) _ (omega arith)

pub returns : goal.returns
returns c = c.shr_bits-2.ensures ∙ words_right _ (omega arith) _ (omega arith)
