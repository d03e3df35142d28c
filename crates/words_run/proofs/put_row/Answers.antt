-- `words_run::put_row` meets its contract.
use mathlib.Core.Path.{sym}
use borrow.Author.Tests.{lt-ltb, le-ltb}
use Rattle.text_digits.proofs.Laws.{wrote_then}
use Rattle.words_run.specs.Rows.{row}
use Rattle.words_run.proofs.put_row.Goals as goal

pub returns-then-left-lt4-clause-wrote : goal.returns-then-left-lt4-clause-wrote
unfolding row
returns-then-left-lt4-clause-wrote c = rw (lt-ltb _ 4 c.if-left-lt4.true) (wrote_then c.put_name-a.ensures.wrote c.put_broken.ensures.wrote)

pub returns-clause-wrote : goal.returns-clause-wrote
unfolding row
returns-clause-wrote c = rw (le-ltb _ 4 c.if-left-lt4.false, sym c.word_at.ensures) c.put_word_row.ensures.wrote
