pub mod Answer
pub mod Matter
