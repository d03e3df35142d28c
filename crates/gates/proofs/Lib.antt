-- Truth in a graph: enough levels, earlier gates kept, a gate's two literals. Runs of builders.
pub mod Truth
pub mod Laws
