pub mod Encoding
pub mod Word
pub mod Decode
pub mod Inverse
pub mod Samples
pub mod Parts
