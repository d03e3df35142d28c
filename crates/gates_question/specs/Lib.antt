pub mod Question
pub mod Build
