pub mod OnBook
pub mod Lines
pub mod Rooms
