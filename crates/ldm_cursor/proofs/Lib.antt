pub mod CallerLemmas
pub mod FirstMark
pub mod Holders
pub mod IsKept
pub mod LeastEmpty
pub mod PlacesOf
pub mod WithLoss
