-- The value and the visits of a node by those of its operands; what `evaluate` answers; the theorems of specs/Answer.antt.
pub mod Steps
pub mod Values
pub mod Answers
