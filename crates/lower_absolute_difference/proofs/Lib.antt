-- The absolute differences build their trees, lane by lane.
pub mod Differing
