pub mod Building
pub mod KeptRules
pub mod Left
pub mod Searches
