-- The reads of a record, its form and its widening, put together; no legal record adds more than 768 nodes: record_nodes is 764.
pub mod Recording
pub mod Bound
