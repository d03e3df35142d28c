-- `neon_lower_instruction` hands on what `lower_instruction` promises; a refusal has no node, and the old count.
use Rattle.neon_terms.proofs.neon_lower_instruction.Goals as goal

pub returns-in-Err : goal.returns-in-Err
returns-in-Err c = rw c.from.ensures c.in-Err.ensures
