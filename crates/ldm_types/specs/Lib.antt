pub mod Arena
pub mod Feed
pub mod Info
pub mod InfoView
pub mod Cursors
