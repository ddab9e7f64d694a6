pub mod Steps
pub mod Ticks
pub mod Rising
pub mod Waiting
pub mod Fronts
pub mod Stepping
pub mod Beating
mod Own
mod Sending
mod Making
mod Joining
mod Loops
mod Ending
mod Staying
mod Worked
