-- Laws by which functions on patterns are known.
pub mod Values
pub mod ByCycle
pub mod ByEvent
