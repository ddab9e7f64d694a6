pub mod Left
pub mod LastLine
mod Worked
