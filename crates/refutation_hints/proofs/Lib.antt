-- Facts on lists that begin with their length, on the clauses of the steps so far and what a hint leaves of them, on marks.
pub mod Lists
pub mod Steps
pub mod Marks
