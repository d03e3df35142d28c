-- Facts on graphs, on a step at a place of the words, on the loop over the steps, on the answers.
pub mod Graph
pub mod Parts
pub mod Going
pub mod Answers
