mod Worked
pub mod ListLemmas
pub mod WordLemmas
