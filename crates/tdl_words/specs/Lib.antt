pub mod Words
pub mod Modes
pub mod View
pub mod inside
