pub mod Number
pub mod Words
pub mod Bitwise
pub mod Adds
