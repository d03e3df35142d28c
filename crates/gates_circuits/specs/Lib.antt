pub mod Makes
pub mod Shift
