pub mod Lowering
pub mod Demand
