pub mod Built
pub mod Joined
pub mod Lowers
pub mod Arguments
pub mod Chosen
pub mod Stays
pub mod inside
