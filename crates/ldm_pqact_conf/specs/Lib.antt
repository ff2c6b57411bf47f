pub mod Lines
pub mod Fields
pub mod Arguments
pub mod Actions
pub mod Entries
pub mod Causes
pub mod Kept
pub mod EntryParts
