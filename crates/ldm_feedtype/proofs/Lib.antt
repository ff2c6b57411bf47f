pub mod Numerals
pub mod Sets
pub mod Stack
pub mod Texts
pub mod Digits
pub mod Rules
pub mod Stops
