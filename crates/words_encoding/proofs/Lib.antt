-- Encoding and decoding are inverse on legal records; the sample words hold.
pub mod Fields
pub mod Operations
pub mod Decoding
pub mod Reading
pub mod Back
pub mod Sum
pub mod Pieces
pub mod Lookup
pub mod Samples
