pub mod Bytes
pub mod Numbers
pub mod Languages
pub mod MiniForms
pub mod LineForms
pub mod Tokens
pub mod inside
