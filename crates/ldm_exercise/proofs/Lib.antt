pub mod CountsLemmas
pub mod PlayedLemmas
pub mod EndingLemmas
