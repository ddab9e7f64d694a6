pub mod Ranges
pub mod CycleRows
pub mod PutRows
pub mod Entries
pub mod Knowing
pub mod ChangeLists
pub mod Boundaries
pub mod Scores
pub mod Tones
pub mod Begun
pub mod Past
mod Ahead
pub mod OnWires
pub mod LastPlays
pub mod Growing
mod Sent
mod Dues
pub mod MappedDesks
mod Clipped
mod Unasked
pub mod Cuts
