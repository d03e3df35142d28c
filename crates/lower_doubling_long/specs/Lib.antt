pub mod Elements
pub mod Lanes
