pub mod ChunkLemmas
pub mod LineLemmas
pub mod ReadingLemmas
pub mod PullLemmas
pub mod PromptLemmas
pub mod StepLemmas
mod Worked
