-- The conjunction without a new gate; literals made by a few conjunctions.
pub mod Fold
pub mod Runs
pub mod Reduce
