pub mod WordLemmas
pub mod NoteLemmas
pub mod ReaderLemmas
pub mod EndLemmas
pub mod EuclidLemmas
pub mod PartLemmas
pub mod CountLemmas
pub mod InsideLemmas
