-- The counts and the reversal of one lane build their trees, bit by bit.
pub mod Layering
pub mod Bitwise
