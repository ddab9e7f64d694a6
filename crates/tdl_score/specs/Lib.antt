-- what the clauses cite of the crates below
pub use Rattle.tdl_fraction.specs.Rational
pub use Rattle.tdl_fraction.specs.Arc
pub use Rattle.tdl_fraction.specs.Range
pub use Rattle.tdl_fraction.specs.Units
pub use Rattle.tdl_control.specs.WordForm
pub use Rattle.tdl_control.specs.Setting
pub use Rattle.tdl_event.specs.Event
pub use Rattle.tdl_order.specs.TimeOrder
pub use Rattle.tdl_desk.specs.Desk
pub use Rattle.tdl_desk.specs.Changes as DeskChanges
pub use Rattle.tdl_expr.specs.Tree
pub use Rattle.tdl_meaning.specs.Meaning
pub use Rattle.tdl_tempo.specs.Tempo
pub use Rattle.tdl_osc.specs.Bundle
pub use Rattle.tdl_midi.specs.Notes as MidiNotes
pub use Rattle.tdl_notes.specs.Notes
pub use Rattle.tdl_notes.specs.Waiting
-- what was accepted
pub mod Readings
pub mod Placed
pub mod Slots
pub mod History
pub mod Known
pub mod Changes
-- what it plays and sends
pub mod Score
pub mod Wires
pub mod Programs
pub mod Growth
-- what private contracts alone cite
pub mod inside
