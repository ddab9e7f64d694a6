pub mod Gained
pub mod Pushes
pub mod RateRows
pub mod Loops
pub mod HitSteps
pub mod ChosenRows
pub mod MadeLeaves
pub mod MadeTrees
