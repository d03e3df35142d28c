-- Demand 3, of every number and words that `neon_lower_block` can leave; the theorems of specs/Demand.antt on blocks with their saturation bit, and on texts.
pub mod Equal
pub mod Saturation
pub mod Text
