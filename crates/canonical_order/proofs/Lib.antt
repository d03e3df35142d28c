-- The walk lists the trees beneath a root in the order in which it finishes them, each once: its start, its turns, its end.
pub mod Lists
pub mod Parts
pub mod Turns
pub mod Ends
