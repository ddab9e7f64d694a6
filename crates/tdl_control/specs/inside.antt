pub mod ReadSteps
pub mod Search
