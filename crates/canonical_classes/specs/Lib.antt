pub mod Key
pub mod Class
