-- What reading and writing words answer; the words of records are read back as these, and the records of words written back as these.
pub mod Answers
pub mod Lists
