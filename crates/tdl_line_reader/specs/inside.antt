-- What private contracts alone cite.
pub mod TakesView
pub mod OperandView
