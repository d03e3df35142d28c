pub mod Builds
pub mod Lanes
