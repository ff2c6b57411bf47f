mod Completed
mod Counted
mod Named
mod Sent
