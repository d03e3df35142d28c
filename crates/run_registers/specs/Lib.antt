pub mod Digits
pub mod Start
