-- What the invariants of loops speak of.
pub mod Views
