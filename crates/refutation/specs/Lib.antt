pub mod Refutation
