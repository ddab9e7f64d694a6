-- what the definitions cite of the crates below
pub use Rattle.tdl_fraction.specs.Rational
pub use Rattle.tdl_fraction.specs.Arc
pub use Rattle.tdl_event.specs.Event
pub mod Span
pub mod Stored
pub mod Item
pub mod Step
pub mod ItemLaws
pub mod Times
pub mod Values
pub mod inside
