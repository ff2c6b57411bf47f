mod Starts
mod Beginning
pub mod Fronts
pub mod Doing
pub mod Acting
pub mod Messaging
mod Waiting
pub mod Emptied
pub mod Steps
pub mod Turning
pub mod Stepping
pub mod Opened
pub mod Settling
pub mod Unturned
pub mod Sent
