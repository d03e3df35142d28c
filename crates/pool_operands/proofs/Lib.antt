-- Which operands a kind has, and a node's four words written.
pub mod ByKind
pub mod Unused
pub mod Written
