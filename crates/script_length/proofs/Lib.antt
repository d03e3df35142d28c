-- How long the parts of a script are; what `script_length` answers, by the way that it took.
pub mod Sizes
pub mod Answers
