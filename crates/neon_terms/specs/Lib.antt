pub mod Results
pub mod Demand
pub mod Version
