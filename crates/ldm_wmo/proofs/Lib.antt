mod Marks
mod Forms
mod Numbers
mod Runs
mod Fronts
mod BulletinLemmas
mod WriteLemmas
pub mod Joined
pub mod Spelled
mod Candidates
mod Written
mod Holding
pub mod Decoded
mod Once
mod Sound
mod Held
mod Named
mod Lost
mod Framed
mod Frames
mod Completed
mod Whole
mod Stream
mod Pieces
mod Signed
mod Taken
