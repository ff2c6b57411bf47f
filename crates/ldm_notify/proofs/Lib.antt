mod Turning
mod Handling
mod Stepping
mod Coursing
mod Closing
mod Complete
mod Asked
