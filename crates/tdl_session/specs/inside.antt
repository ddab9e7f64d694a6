pub mod Beside
pub mod Spots
