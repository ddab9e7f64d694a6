-- what the definitions cite of the crates below
pub use Rattle.tdl_fraction.specs.Rational
pub use Rattle.tdl_tempo.specs.Tempo
pub mod Bundle
pub mod BundleFault
pub mod BundleLaws
pub mod Encoding
pub mod inside
pub mod Message
pub mod OscBundle
pub mod RefusesBundle
pub mod Values
