pub mod LaneScript
pub mod Demand
