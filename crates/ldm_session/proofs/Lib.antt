pub mod CallerLemmas
mod HearingLemmas
