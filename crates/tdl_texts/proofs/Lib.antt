pub mod Toks
pub mod OneReading
pub mod EachText
pub mod Loop
