pub mod CallerLemmas
mod Scans
mod Wording
