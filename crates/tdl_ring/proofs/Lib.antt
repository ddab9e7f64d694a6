pub mod Integers
pub mod Laws
pub mod Sound
pub mod Quoting
pub mod Combination
pub mod Inverses
mod Examples
