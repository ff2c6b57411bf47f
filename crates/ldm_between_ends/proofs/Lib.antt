pub mod Messages
pub mod Growing
pub mod Reaching
pub mod Taking
pub mod Announcing
pub mod Filling
pub mod Following
pub mod Splitting
pub mod Pieces
pub mod Sizes
pub mod Arriving
pub mod Joining
pub mod EachMessage
pub mod Leading
pub mod Calling
pub mod Saying
pub mod Moments
pub mod Queueing
pub mod Setting
pub mod Narrowing
pub mod Replying
pub mod Owing
pub mod Hearing
mod Coming
mod Feeds
pub mod Keeping
mod Moving
mod Stepping
mod Turning
mod Beginning
mod Whole
mod Offering
mod Feeding
pub mod OnePass
mod Numbers
mod Gone
mod Position
mod Giving
mod Reader
mod Wanted
mod Calls
mod Handing
mod Counting
mod BlocksCame
mod Behind
mod Resuming
mod Naming
mod FindingLast
mod Living
pub mod Cutting
pub mod Fronts
pub mod Entries
pub mod Slots
pub mod Asking
pub mod FedFew
pub mod Sound
pub mod CutPieces
pub mod Took
pub mod Meeting
mod MeetingWitness
