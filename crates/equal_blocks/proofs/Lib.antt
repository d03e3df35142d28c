-- The theorems of specs/Demand.antt.
pub mod Equal
