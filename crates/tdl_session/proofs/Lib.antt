pub mod Passes
pub mod Records
pub mod PairWorks
pub mod MeetingPasses
