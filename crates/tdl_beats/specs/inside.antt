pub mod Beating
pub mod Playing
