-- what the clauses cite of the crates below
pub use Rattle.tdl_fraction.specs.Rational
pub use Rattle.tdl_midi.specs.Notes as MidiNotes
pub use Rattle.tdl_event.specs.declared.rows.Row
-- the notes of a score
pub mod Notes
pub mod Waiting
pub mod Balance
pub mod Ready
-- what private contracts alone cite
pub mod inside
