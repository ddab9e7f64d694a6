-- What the contracts of private functions speak of.
pub mod Commands
pub mod Tells
