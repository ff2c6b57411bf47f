pub mod Members
pub mod Timed
pub mod Taken
pub mod Moved
pub mod Followed
pub mod Found
pub mod Running
pub mod Pieces
pub mod Fed
pub mod Counting
pub mod Rounds
pub mod Turned
pub mod Accepted
pub mod Sending
mod Linked
