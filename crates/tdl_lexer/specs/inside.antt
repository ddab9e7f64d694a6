pub mod FindNumber
pub mod FindMini
pub mod FindLine
pub mod Lexeme
