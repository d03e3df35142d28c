-- Taking the bytes of a line one by one.
pub mod Gathering
