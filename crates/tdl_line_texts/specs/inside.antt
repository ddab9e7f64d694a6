-- What the contracts of private functions speak of: the table of names.
pub mod NamesView
