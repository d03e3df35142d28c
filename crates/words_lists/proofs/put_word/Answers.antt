use mathlib.Core.Path.{refl, ◌∙◌}
use native.Mathlib.Omega.{arith}
use Rattle.text_series.proofs.Texts.{wrote-copied}
use Rattle.words_lists.specs.Words.{word_bytes}
use Rattle.words_lists.proofs.put_word.Goals as goal

pub returns : goal.returns
returns c =
    wrote-copied c.args.bytes.now c.args.at _ _ (word_bytes c.args.w) _ (c.copy_from_slice.ensures.after ∙ c.to_le_bytes.ensures) (omega arith) refl (omega arith)
