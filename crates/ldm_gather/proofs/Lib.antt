pub mod Cursors
mod Turning
mod Gathering
mod Ending
mod Caused
mod Lasting
mod Completing
mod StepTurns
pub mod Giving
mod EachGathered
mod Connected
mod Opened
mod Written
mod Reading
