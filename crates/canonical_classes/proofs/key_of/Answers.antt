-- `key_of` gives `key_of`, and the three classes in it are below 65,536.
use Rattle.canonical_classes.proofs.Search.{key-made}
use Rattle.canonical_classes.proofs.key_of.Goals as goal

pub returns : goal.returns
returns c = (
  rw c.kind_word_at.ensures
      (key-made _ _ _ c.kind_of-kind.result _ _ _ _ _ _ _ _ _ _ _ c.kind_of-kind.ensures c.has_a.ensures c.has_b.ensures
      c.has_c.ensures
      c.first.ensures c.second.ensures c.third.ensures c.class_if.ensures.0 c.class_if-2.ensures.0
      c.class_if-3.ensures.0 c.low.ensures c.high.ensures),
  c.class_if.ensures.1,
  c.class_if-2.ensures.1,
  c.class_if-3.ensures.1,
)
