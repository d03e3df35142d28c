-- Lanes by family; counts of bits, bits reversed, and inserts; a lane of n bits is below 2^n.
pub mod Lanes
pub mod Counts
pub mod Bounds
