pub mod CrashLemmas
pub mod Told
pub mod Filled
