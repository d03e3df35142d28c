-- A record with its saturation bit, from what its calls do.
pub mod Stepping
