pub mod Closing
pub mod Kept
pub mod Occupied
pub mod Read
pub mod Round
pub mod Tables
pub mod Walked
