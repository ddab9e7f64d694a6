pub mod Ring
pub mod Expression
pub mod Normal
pub mod Pairs
