pub mod Command
pub mod World
pub mod Views
pub mod Lent
pub mod Run
pub mod Law
pub mod Complete
pub mod Doing
