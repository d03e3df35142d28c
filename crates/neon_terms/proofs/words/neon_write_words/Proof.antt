-- `neon_terms::words::neon_write_words` meets its contract, which is that of the operation of the same name.
use borrow.Author.Rules.{rules}
use Rattle.neon_terms.proofs.words.neon_write_words.Statement.{statement}
use Rattle.neon_terms.proofs.words.neon_write_words.Tie as tie

write-words-requires : tie.Need-write_words-a-requires
write-words-requires c κs = tt

same_length : tie.Need-shape_of-bytes
same_length c = search rules

returns : tie.Need-returns
returns c = c.write_words-a.ensures

pub neon_write_words_spec : {M : Type 1} → statement M
neon_write_words_spec = tie.close (tie.spec write-words-requires same_length returns)
