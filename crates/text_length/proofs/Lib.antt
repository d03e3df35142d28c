-- The lengths of texts, taken off part by part or kept node by node; what `text_length` answers.
pub mod Sizes
pub mod Answers
pub mod Kept
pub mod Hex
