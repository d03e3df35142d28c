-- The counts and the reversal build their trees, lane by lane.
pub mod Lanes
