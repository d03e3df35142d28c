-- Bytes and numbers written into a lent buffer are their texts.
pub mod Laws
pub mod Lengths
pub mod TwoDigits
