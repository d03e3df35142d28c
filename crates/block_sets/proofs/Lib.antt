-- The sets after a block, by the set of a node, demand 3 and starts that agree.
pub mod Matter
