-- What private contracts alone cite.
pub mod PartView
pub mod GrowthView
pub mod NoteView
pub mod Calls
pub mod Follows
