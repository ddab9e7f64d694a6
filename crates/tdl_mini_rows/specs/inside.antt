-- What the contracts of private functions speak of: rows and changes as the program has them, and their bounds.
pub mod Views
pub mod SizeViews
pub mod Waits
pub mod Changes
pub mod Bounds
pub mod Turns
pub mod Stays
