-- What reading lines answers, by the way that it took; a routine that was read into a list for 85 records, handed on as a block.
pub mod Answers
pub mod Blocks
