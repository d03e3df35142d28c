-- `words_encoding::encode::is_long` meets its contract: the long operations are 42 to 53.
use Rattle.words_encoding.proofs.Sum.{long-is}
use Rattle.words_encoding.proofs.encode.is_long.Goals as goal

pub returns : goal.returns
returns c = long-is c.args.operation c.requires.0 c.requires.1
