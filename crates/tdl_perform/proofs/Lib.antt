pub mod ServedLines
pub mod LineReplies
pub mod ServedPorts
pub mod Talks
pub mod OwnEntries
pub mod FullHistories
