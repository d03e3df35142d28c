pub mod Find
pub mod Reduce
pub mod Adds
