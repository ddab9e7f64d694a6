-- What each kind of pattern is known for: the older kinds by subject, and the further ones a page each, with what several
-- of them use and with worked rows.
pub mod Proper
pub mod Grids
pub mod Hangs
pub mod Counts
pub mod When
pub mod Shift
pub mod Filters
pub mod Gate
pub mod Rev
pub mod Joined
pub mod Pieces
pub mod Ply
pub mod Pairs
pub mod Join
pub mod Worked
