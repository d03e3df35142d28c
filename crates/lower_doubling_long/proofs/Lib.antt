-- The doubling long multiplications, from what their calls build.
pub mod Multiplying
