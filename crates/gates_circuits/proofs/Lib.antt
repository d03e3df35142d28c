-- Words that are made one after the other; sum and difference; shifts; products.
pub mod Laws
pub mod Sum
pub mod Moved
pub mod Moves
pub mod Shifting
pub mod Shifted
pub mod Rows
