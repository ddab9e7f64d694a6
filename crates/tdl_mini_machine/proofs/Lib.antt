pub mod Keeping
pub mod Counting
pub mod Counts
pub mod DigitLemmas
