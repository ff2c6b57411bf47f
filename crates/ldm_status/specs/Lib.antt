pub mod Streams
pub mod Status
pub mod WholeScript
