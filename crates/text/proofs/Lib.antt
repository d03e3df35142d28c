-- `write_text` answers as its contract says, and agrees with the length that is reported.
pub mod Answers
pub mod Agree
