pub mod Times
pub mod Kept
pub mod Ring
