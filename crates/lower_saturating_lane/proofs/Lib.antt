-- The narrowing of a lane's exact value, from what the calls build: it is the lane.
pub mod Narrowing
