pub mod Changes
pub mod Desk
pub mod Fields
pub mod Kept
pub mod inside
