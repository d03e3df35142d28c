-- What the rules of a valid pool say of a node by its kind: its operands come before it and have the widths that they must; the kinds by their numbers; two words against a power of two.
pub mod Kept
pub mod Numbers
pub mod Words
mod At
mod AtPair
mod Keeps
mod Pairs
mod Singles
