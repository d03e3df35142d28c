-- The answer on a refutation, and what 0 says of the bits.
pub mod Decide
