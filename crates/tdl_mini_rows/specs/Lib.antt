pub mod Leaves
pub mod Lowered
pub mod Arguments
pub mod inside
