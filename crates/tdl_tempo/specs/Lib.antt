-- what the definitions cite of the crate below
pub use Rattle.tdl_fraction.specs.Rational
pub mod Tempo
