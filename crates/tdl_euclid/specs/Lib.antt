pub mod Bits
pub mod Euclid
pub mod Refusal
pub mod Stored
