pub mod Brought
pub mod Placing
