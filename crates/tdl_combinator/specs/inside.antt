-- What private contracts cite.
pub mod Numbered
