pub mod Limits
pub mod Premises
pub mod Choices
