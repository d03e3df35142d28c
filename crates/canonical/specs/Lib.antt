pub mod Same
pub mod Order
pub mod Words
pub mod Example
