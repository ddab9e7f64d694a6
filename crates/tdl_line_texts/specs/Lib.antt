pub mod Limits
pub mod Names
pub mod Texts
pub mod inside
