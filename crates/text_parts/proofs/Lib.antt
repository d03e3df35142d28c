-- What comes before a node's operands and after them makes its text.
pub mod Operands
pub mod Pieces
pub mod Tree
