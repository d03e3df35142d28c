pub mod Block
pub mod Demand
pub mod Bound
