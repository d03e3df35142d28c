pub mod Saturates
pub mod Bits
pub mod Family
pub mod Demand
