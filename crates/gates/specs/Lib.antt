pub mod Graph
pub mod Grow
