pub mod Rounds
pub mod Sides
pub mod inside
