-- Lemmas that all crates share: answers, numbers and powers of two, joined tests, refusals, lists that are the same, computed tables.
pub mod Answers
pub mod Numbers
pub mod Tests
pub mod Refused
pub mod Same
pub mod Table
