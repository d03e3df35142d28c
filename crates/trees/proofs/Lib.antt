-- Set P and the known faults; laws of joined cuts; the Rust's trees and this port's; sources that are not read.
pub mod Cases
pub mod Cuts
pub mod Nested
pub mod Alike
pub mod Rewrite
pub mod RustTexts
pub mod Unread
