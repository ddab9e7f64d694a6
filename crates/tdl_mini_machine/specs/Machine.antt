-- A machine of tokens that finds the tree or the first fault of a text.
pub mod States
pub mod Settling
pub mod Values
pub mod Brackets
pub mod Marks
pub mod Running
