-- The canonical words of a term: they unfold to its distinct subtrees in the order of a walk, determine the term, and pass the check; an example of the order.
pub mod Lists
pub mod Trees
pub mod Good
pub mod Words
pub mod Valid
pub mod Example
