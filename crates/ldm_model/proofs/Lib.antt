pub mod Places
pub mod Cases
pub mod ReservationCases
pub mod Space
pub mod ApartFit
pub mod ApartRegions
pub mod ApartNext
mod Held
mod HeldNext
pub mod Appended
pub mod Ascending
pub mod Apart
pub mod Rows
pub mod Coming
pub mod Reading
pub mod ReadingMoves
pub mod Points
pub mod Evictable
pub mod Tied
pub mod TiedOthers
pub mod Losses
pub mod TiedOwn
pub mod TiedOpened
pub mod TiedPoints
pub mod Served
pub mod Answered
pub mod Lawful
pub mod Effects
pub mod Opened
pub mod Admitted
pub mod FillingPoints
pub mod FillingAnswered
pub mod Numbered
pub mod Fitting
mod Changing
mod Times
mod Signatures
mod Regions
mod RoomKept
pub mod Witnesses
mod Insertions
