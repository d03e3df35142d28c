-- The numbers of a question; two pools in one graph; the literal of bits that differ.
pub mod Refusals
pub mod Build
pub mod Asks
