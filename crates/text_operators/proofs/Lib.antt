-- The text between two operands, and its length.
pub mod Lengths
