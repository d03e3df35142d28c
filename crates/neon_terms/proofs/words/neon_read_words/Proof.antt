-- `neon_terms::words::neon_read_words` meets its contract, which is that of the operation of the same name.
use borrow.Author.Rules.{rules}
use Rattle.neon_terms.proofs.words.neon_read_words.Statement.{statement}
use Rattle.neon_terms.proofs.words.neon_read_words.Tie as tie

read-words-requires : tie.Need-read_words-a-requires
read-words-requires c κs = tt

same_length : tie.Need-shape_of-records
same_length c = search rules

returns : tie.Need-returns
returns c = c.read_words-a.ensures

pub neon_read_words_spec : {M : Type 1} → statement M
neon_read_words_spec = tie.close (tie.spec read-words-requires same_length returns)
