-- `text_write::write_node` meets its contract: the buffer comes back with the text of either writer.
use mathlib.Core.Path.{◌∙◌}
use Rattle.text_write.proofs.Behind.{behind-whole}
use borrow.Author.Rules.{rules}
use Rattle.text_write.proofs.write_node.Statement.{statement}
use Rattle.text_write.proofs.write_node.Tie as tie
use Rattle.text_write.proofs.write_node.Lts.{then-width_of-eq0, else-width_of-eq0}

width-of-requires : tie.Need-width_of-requires
width-of-requires c κs = search rules

write-condition-requires : tie.Need-write_condition-requires
write-condition-requires c κs = search rules

write-term-requires : tie.Need-write_term-requires
write-term-requires c κs = search rules

returns : tie.Need-returns
returns c =
    elim c.if-width_of-eq0.branch [
      | then-width_of-eq0 w ↦ (w.b-is ∙ behind-whole w.write_condition.ensures, w.end-is ∙ w.write_condition.ensures.wrote.next_is)
      | else-width_of-eq0 w ↦ (w.b-is ∙ behind-whole w.write_term.ensures, w.end-is ∙ w.write_term.ensures.wrote.next_is)
    ]

pub write_node_spec : {M : Type 1} → statement M
write_node_spec =
    tie.close (tie.spec width-of-requires write-condition-requires write-term-requires returns)
