-- The list has each legal form once, and no other; the parts in which the lines are written make up the lines of the list; the rows of an operation at an arrangement.
pub mod Forms
pub mod Lines
pub mod Rows
