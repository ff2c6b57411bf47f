mod Agreeing
mod Keeping
mod Taking
mod TakingEntries
