pub mod Weights
pub mod Visited
pub mod Visits
pub mod Joins
