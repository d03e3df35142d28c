-- One turn of the loop over the lines of a piece, and the end of the input; what a whole run writes, by its calls.
pub mod Running
pub mod Runs
