pub mod Agenda
pub mod Slots
pub mod Linked
pub mod inside
