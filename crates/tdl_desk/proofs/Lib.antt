pub mod DeskFolds
pub mod LaterLists
pub mod SomeOrbit
pub mod Worked
