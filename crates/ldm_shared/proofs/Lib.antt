pub mod Histories
pub mod Made
pub mod OwnFolds
pub mod OwnPoints
pub mod OwnLaw
pub mod Counts
pub mod Keeping
pub mod Puts
pub mod Telling
pub mod Adding
pub mod Joining
pub mod Taking
pub mod Growing
pub mod OpeningPlaces
pub mod Gathering
pub mod Finishing
pub mod CallerLemmas
pub mod Turned
pub mod Unseen
pub mod Gathered
mod Answered
mod Cursors
mod Readers
mod RowsStay
pub mod Using
pub mod Counting
