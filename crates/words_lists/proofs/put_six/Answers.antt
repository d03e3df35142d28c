use mathlib.Core.Path.{refl}
use native.Mathlib.Omega.{arith}
use Rattle.text_series.proofs.Texts.{wrote-copied}
use Rattle.words_lists.specs.Words.{numbers}
use Rattle.words_lists.proofs.put_six.Goals as goal

pub returns : goal.returns
returns c = wrote-copied c.args.records.now c.args.at _ _ (numbers c.args.c) _ c.copy_from_slice.ensures.after (omega arith) refl (omega arith)
