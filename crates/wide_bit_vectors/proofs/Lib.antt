-- SMT-LIB's operations at any width up to 192, from those at 192.
pub mod Laws
