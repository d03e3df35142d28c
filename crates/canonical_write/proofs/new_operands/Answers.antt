-- `new_operands` gives `new_operands`: word 1 with the new number of each operand that the kind has.
use mathlib.Core.Path.{◌∙◌}
use Rattle.canonical_write.proofs.Words.{operands-made}
use Rattle.canonical_write.proofs.new_operands.Goals as goal

pub returns : goal.returns
returns c =
    c.operands_word.ensures
    ∙ operands-made _ _ _ _ c.kind_of-kind.result _ _ _ _ _ _ _ _ _ c.kind_of-kind.ensures c.has_a.ensures c.has_b.ensures c.has_c.ensures
    c.first.ensures c.second.ensures c.third.ensures c.number_if-a.ensures.0 c.number_if-b.ensures.0
    c.number_if-c.ensures.0
