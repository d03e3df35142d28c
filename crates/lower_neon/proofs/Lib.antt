-- What each operation's family reads, makes and needs is what its row says; lowerings of fewer nodes, and sources that are not read or whose width is known by another name.
pub mod Rows
pub mod Sources
pub mod Props
