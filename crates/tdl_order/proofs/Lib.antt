pub mod EachItem
pub mod Rising
pub mod InOrder
pub mod ByTimes
pub mod Cuts
mod Compared
mod Worked
