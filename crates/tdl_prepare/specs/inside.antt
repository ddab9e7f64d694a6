-- What private contracts cite.
pub mod Views
pub mod Parts
