pub mod Past
pub mod Rules
pub mod Looks
pub mod Walks
pub mod Parses
pub mod Given
pub mod Tables
pub mod OptionLaws
pub mod ModeLaws
pub mod Found
pub mod Uniqueness
pub mod Bounds
pub mod FaultLemmas
pub mod FirstWord
pub mod UsualTempo
mod Worked
