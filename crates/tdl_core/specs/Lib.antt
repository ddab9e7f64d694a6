-- what the clauses cite of the crates below
pub use Rattle.tdl_fraction.specs.Rational
pub use Rattle.tdl_fraction.specs.Units
pub use Rattle.tdl_desk.specs.Desk
pub use Rattle.tdl_desk.specs.Changes as DeskChanges
pub use Rattle.tdl_tempo.specs.Tempo
pub use Rattle.tdl_notes.specs.Notes
pub use Rattle.tdl_notes.specs.Waiting
pub use Rattle.tdl_line_texts.specs.Texts
pub use Rattle.tdl_line_changes.specs.Readings
pub use Rattle.tdl_score.specs.History
pub use Rattle.tdl_score.specs.Changes
pub use Rattle.tdl_score.specs.Score
pub use Rattle.tdl_score.specs.Wires
pub use Rattle.tdl_score.specs.Programs
pub use Rattle.tdl_turn.specs.Numbers
pub use Rattle.tdl_session.specs.Passes
pub use Rattle.tdl_session.specs.Told
-- what the texts of swaps say
pub mod Said
-- calls
pub mod Looks
pub mod Replies
pub mod Runs
pub mod Sessions
pub mod ReplyLines
pub mod Lines
pub mod Core
-- what private contracts alone cite
pub mod inside
