pub mod Tokens
pub mod Pieces
pub mod WrongTokens
pub mod KindNames
pub mod Machine
