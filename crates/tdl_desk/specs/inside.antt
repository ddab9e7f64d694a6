pub mod Settled
pub mod Says
