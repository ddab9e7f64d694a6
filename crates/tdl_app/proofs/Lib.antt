pub mod ScriptReadings
pub mod LineAnswers
pub mod SameDevices
pub mod LinesPerformed
pub mod LackedReplies
pub mod LinesStopped
pub mod EndLines
pub mod ScriptEnds
pub mod Unput
pub mod Consoles
pub mod LinesDrilled
pub mod DrillEnds
pub mod LoggedRuns
pub mod ServedRuns
pub mod Refused
mod SpokenTexts
mod OneLogRuns
pub mod RefusedQueries
pub mod CompleteStatuses
pub mod PortCauses
pub mod CompleteRuns
pub mod Streams
pub mod Runs
pub mod BatchEvents
pub mod ArcLines
pub mod QueryEnds
pub mod ByWords
mod Worked
