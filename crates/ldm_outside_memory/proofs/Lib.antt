mod CopyFront
mod ClockLemmas
mod NetLemmas
mod FileLemmas
