-- Sums of bits; loops that write a literal a turn; words bit by bit.
pub mod Sums
pub mod Loops
pub mod Gates
pub mod Adding
pub mod Folds
