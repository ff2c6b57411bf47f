pub mod Fields
pub mod FieldsView
pub mod FieldReads
pub mod Spelling
pub mod Reading
pub mod Writing
pub mod Faults
pub mod Examples
