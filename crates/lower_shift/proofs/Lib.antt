-- The shifts build their trees, lane by lane.
pub mod Lanes
