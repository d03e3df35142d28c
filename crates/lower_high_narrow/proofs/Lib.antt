-- The narrowing sums and differences build their trees, lane by lane.
pub mod Narrowing
