-- `neon_terms::lines::neon_read_lines` meets its contract, which is that of `line_routine::read_lines`.
use borrow.Author.Rules.{rules}
use Rattle.neon_terms.proofs.lines.neon_read_lines.Statement.{statement}
use Rattle.neon_terms.proofs.lines.neon_read_lines.Tie as tie

read-lines-requires : tie.Need-read_lines-a-requires
read-lines-requires c κs = tt

same_length : tie.Need-shape_of-records
same_length c = search rules

returns : tie.Need-returns
returns c = c.read_lines-a.ensures

pub neon_read_lines_spec : {M : Type 1} → statement M
neon_read_lines_spec = tie.close (tie.spec read-lines-requires same_length returns)
