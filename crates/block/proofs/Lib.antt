-- Records in order, demand 3 of every answer that the lowering of a block can leave, and the nodes of an accepted block.
pub mod Running
pub mod Equal
pub mod Bound
