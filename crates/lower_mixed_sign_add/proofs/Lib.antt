-- A lane of a sum of mixed sign, from what its calls build.
pub mod Summing
