-- Records in columns are read back as they are, so the line program answers each by its text.
pub mod Answers
