-- `neon_lower_block_saturation` writes the map and the bit of an answer, or those of a refusal.
use Rattle.std.proofs.Common.{Ok, Err, refl}
use Rattle.saturation_block.specs.Block.{answer_of}
use Rattle.neon_terms.proofs.saturated.neon_lower_block_saturation.Goals as goal

pub returns-in-Ok : goal.returns-in-Ok
returns-in-Ok c = (answer_of (Ok c.in-Ok.end), c.in-Ok.ensures, refl, c.flagged_words.ensures)

pub returns-in-Err : goal.returns-in-Err
returns-in-Err c =
    (answer_of (Err c.in-Err.refused), c.in-Err.ensures, c.from.ensures, rw (c.refused.ensures, c.none.ensures) at c.flagged_words-in-Err.ensures)
