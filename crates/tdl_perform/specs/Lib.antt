pub mod Serves
pub mod Port
pub mod LineEntries
pub mod inside
