pub mod RowTrees
pub mod PassedLemmas
pub mod TableRows
pub mod OlderRows
pub mod JoinLemmas
pub mod WeightLemmas
pub mod Units
pub mod Decimals
pub mod ValidRows
pub mod Numbers
mod Worked
mod WorkedBounds
mod WorkedKinds
