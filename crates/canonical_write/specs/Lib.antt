pub mod Canonise
pub mod Meaning
