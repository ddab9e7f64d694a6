pub mod Compiled
pub mod Grids
pub mod inside
