pub mod Lines
pub mod Reading
pub mod Pulls
pub mod Prompt
pub mod Fields
pub mod inside
