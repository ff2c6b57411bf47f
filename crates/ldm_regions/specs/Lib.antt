pub mod Layout
pub mod Order
pub mod Links
pub mod Gaps
pub mod Kept
