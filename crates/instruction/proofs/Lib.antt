-- What an accepted instruction leaves and means: demand 2; its joined cuts.
pub mod Answering
pub mod Meaning
pub mod Joins
