-- what the definitions cite of the crates below
pub use Rattle.tdl_fraction.specs.Rational
pub mod Tree
pub mod EqualShares
pub mod Rows
pub mod Passed
pub mod Pushed
pub mod Older
pub mod Joins
pub mod Bounds
pub mod Valid
pub mod Weights
pub mod WeightLaws
