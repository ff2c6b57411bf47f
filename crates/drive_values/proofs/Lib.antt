mod Marks
mod Pairs
pub mod PlacesLemmas
