-- What is answered to a routine and two registers, by the way that it took; the theorems of specs/Demand.antt: what the bytes mean, and that only room is wanting.
pub mod Asks
pub mod Means
