-- `write_term` and `write_condition` write the text of a node.
pub mod Behind
