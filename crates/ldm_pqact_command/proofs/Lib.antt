mod Carried
mod Keeping
mod Kept
mod Gathered
mod Stopping
mod Completing
