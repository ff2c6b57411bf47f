pub mod Faults
pub mod Parsing
pub mod Readings
