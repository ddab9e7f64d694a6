pub mod Notes
pub mod Tokens
pub mod NumberForms
pub mod Rules
pub mod WrongTokens
pub mod Readable
pub mod Machine
