pub mod Starts
pub mod Join
pub mod Meaning
