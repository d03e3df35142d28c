pub mod Visits
pub mod Step
pub mod Answer
