pub mod Patterns
pub mod PatternView
pub mod MatcherView
pub mod GroupNumbers
pub mod Parts
pub mod Refusals
pub mod BoundedView
pub mod BoundedMatcherView
