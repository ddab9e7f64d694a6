pub mod Clips
pub mod Lines
