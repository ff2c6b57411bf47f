pub mod Numbers
pub mod Unspelling
pub mod Fitting
pub mod ReadFields
