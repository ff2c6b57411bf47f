pub mod Told
pub mod Model
pub mod Moments
pub mod Calls
pub mod Desks
