-- What private laws speak of: runs of the machine, and what is known of the pieces of a text that was read.
pub mod Laws
pub mod Kept
