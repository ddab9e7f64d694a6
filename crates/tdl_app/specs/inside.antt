-- what private contracts alone cite
pub mod QueryFaults
pub mod EventLines
pub mod Batches
pub mod ScriptLines
pub mod Stops
pub mod Wiring
pub mod Consoles
pub mod OneLine
pub mod Progress
pub mod Drilling
pub mod Responses
