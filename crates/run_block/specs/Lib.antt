pub mod Lanes
pub mod Layout
pub mod Run
