pub mod Numbers
pub mod Sitters
pub mod Tokens
pub mod inside
