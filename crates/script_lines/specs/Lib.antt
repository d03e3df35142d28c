pub mod Output
pub mod Demand
