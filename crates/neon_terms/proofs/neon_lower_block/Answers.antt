-- `neon_lower_block` writes the map of an answer, or that of a refusal.
use Rattle.std.proofs.Common.{Ok, Err, refl}
use Rattle.block.specs.Block.{answer_of}
use Rattle.neon_terms.proofs.neon_lower_block.Goals as goal

pub returns-in-Ok : goal.returns-in-Ok
returns-in-Ok c = (answer_of (Ok c.in-Ok.map), c.in-Ok.ensures, refl, c.answer_words.ensures)

pub returns-in-Err : goal.returns-in-Err
returns-in-Err c = (answer_of (Err c.in-Err.refused), c.in-Err.ensures, c.from.ensures, rw c.refused.ensures at c.answer_words-in-Err.ensures)
