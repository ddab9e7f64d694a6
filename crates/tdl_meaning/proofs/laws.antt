-- Laws by which patterns are known.
pub mod Moved
pub mod Rates
pub mod Pieces
pub mod Mixes
