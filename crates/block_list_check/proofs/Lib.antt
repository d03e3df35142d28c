-- The first record of a list that is refused, for `block_refusal`; block_list cites it too.
pub mod Listed
