pub mod Number
pub mod Registers
