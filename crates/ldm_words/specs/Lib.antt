pub mod Commands
pub mod Values
pub mod Forms
pub mod Views
pub mod Faults
pub mod Checking
