pub mod Ports
pub mod Commands
pub mod Parsing
pub mod Progress
