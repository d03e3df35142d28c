-- The saturating kinds build their trees, lane by lane, with the lower half that a 2 form keeps.
pub mod Joining
