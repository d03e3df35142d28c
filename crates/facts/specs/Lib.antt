pub mod Answer
pub mod Refuse
pub mod Same
