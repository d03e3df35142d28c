-- The inserts build their trees, lane by lane.
pub mod Inserting
