-- How long the lines of a script by lanes are; what `lane_script_length` answers, by the way that it took.
pub mod Sizes
pub mod Answers
