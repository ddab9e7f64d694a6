pub mod Quoted
pub mod ReaderView
pub mod inside
