mod Heard
mod Replied
mod Completed
pub mod Linked
mod Sending
mod Answered
pub mod Told
pub mod Owed
pub mod Followed
mod Held
mod InsertCompleted
mod InsertTelling
mod Running
mod Taken
mod Going
