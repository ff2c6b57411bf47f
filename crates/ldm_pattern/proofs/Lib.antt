pub mod Meanings
pub mod GroupMeanings
pub mod Compiled
