-- The bit of a lane, of an instruction and of a block is 1 exactly when it saturates; the theorems of specs/Demand.antt.
pub mod Clip
pub mod Lost
pub mod Some
pub mod Families
pub mod Block
pub mod Family
pub mod Which
