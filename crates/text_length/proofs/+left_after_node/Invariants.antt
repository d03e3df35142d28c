use Rattle.text_length.proofs.+left_after_node.Given as goal

-- the node number falls at every call
abbrev pub decreases-left_after_node : goal.decreases-left_after_node
decreases-left_after_node l = l.n.0
