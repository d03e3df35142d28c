pub mod Size
pub mod Block
pub mod Demand
