pub mod Step
pub mod Bound
