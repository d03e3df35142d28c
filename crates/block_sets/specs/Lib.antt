pub mod Matter
