-- `text::write_known` meets its contract: the buffer that comes back is the one that was lent.
use mathlib.Core.Path.{sym, ap, ◌∙◌}
use borrow.Author.Rules.{rules}
use Rattle.text.proofs.write_known.Statement.{statement}
use Rattle.text.proofs.write_known.Tie as tie

write-node-requires : tie.Need-write_node-requires
write-node-requires c κs = search rules

same_length : tie.Need-shape_of-buffer
same_length c = search rules

returns : tie.Need-returns
returns c =
    let b = c in
    let w = c in
    record {
      next_is = w.write_node.ensures.1;
      after_is = b.buffer-1.given.1.0 (sym (ap (λ x. x.ghost_name) w.write_node.ensures.0)) ∙ ap (λ x. x.now) w.write_node.ensures.0;
    }

pub write_known_spec : {M : Type 1} → statement M
write_known_spec = tie.close (tie.spec write-node-requires same_length returns)
