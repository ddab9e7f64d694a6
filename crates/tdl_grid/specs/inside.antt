pub mod Asked
pub mod Visited
pub mod Passed
pub mod Rates
pub mod Answers
