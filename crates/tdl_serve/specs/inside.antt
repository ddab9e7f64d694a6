pub mod Ticking
pub mod Numbered
