-- The theorems of specs/Demand.antt: two blocks in one pool.
pub mod Equal
