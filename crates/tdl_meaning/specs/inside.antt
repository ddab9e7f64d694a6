pub mod Conditions
pub mod Children
pub mod Arcs
