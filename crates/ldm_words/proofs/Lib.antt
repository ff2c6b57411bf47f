pub mod Parsing
pub mod Files
pub mod Literals
pub mod Taking
pub mod ChainClasses
