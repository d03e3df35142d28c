-- `shl` gives `bvshl 192`: a shift by whole words, then one inside a word.
use Rattle.std.proofs.Common.{◌∙◌, arith}
use Rattle.wide.proofs.Shifts.{word-left, words_left}
use Rattle.wide.proofs.shl.Goals as goal

pub returns-then-k-lt128 : goal.returns-then-k-lt128
returns-then-k-lt128 c = c.shl_bits-then-k-lt128.ensures ∙ word-left _ (omega arith) _ (omega arith)

pub returns : goal.returns
returns c = c.shl_bits-2.ensures ∙ words_left _ (omega arith) _ (omega arith)
