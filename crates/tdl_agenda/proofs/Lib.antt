mod Turns
mod Slots
pub mod Orders
mod Leads
mod Keeping
mod Least
mod Counts
mod Walk
mod Tails
mod Numbered
mod Renumbering
mod Worked
