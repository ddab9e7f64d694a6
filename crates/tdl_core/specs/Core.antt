-- What a core keeps beside its history, and what that is.
--     IsDeskOf     a desk stands for the changes of a history, settled up to its frontier
--     Counts       what is counted: the time that was played up to, swaps and looks, ticks, packets, messages, and whether there is the finish
--     IsCounted    what was counted of a history
--     KeepsHistory  all of it, of a legal history, and the notes whose ends wait, until the finish
use Rattle.std.specs.Prelude.{◌≡◌, ℕ, ◌+◌, ◌/◌, ◌≤◌, Bool, false, if◌then◌else◌, List, map, length}
use Rattle.tdl_fraction.specs.Units.{last_units, tick_units, time_of}
use Rattle.tdl_compile.specs.Compiled.{Compiled}
use Rattle.tdl_desk.specs.declared.changes.Dated.{Dated}
use Rattle.tdl_desk.specs.Kept.{Kept, StandsFor}
use Rattle.tdl_tempo.specs.Tempo.{Pace}
use Rattle.tdl_notes.specs.Notes.{tones}
use Rattle.tdl_notes.specs.Waiting.{Queue, Waits}
use Rattle.tdl_score.specs.declared.histories.Entry.{Entry}
use Rattle.tdl_score.specs.History.{frontier, is_finished, performed_count, tick_count, max_performed, max_ticks}
use Rattle.tdl_score.specs.Programs.{dated_tree}
use Rattle.tdl_score.specs.Score.{score}
use Rattle.tdl_core.specs.Said.{HasChanges, HasMidi, HasOsc, IsLegal}

pub record IsDeskOf (entries : List Entry) (state : Kept Compiled) (changes : List (Dated Compiled)) : Type 0 where
  pub has : HasChanges entries (map dated_tree changes)
  pub stands : StandsFor state changes
  pub settled : state.settled ≡ frontier entries / tick_units

pub record Counts : Type 0 where
  pub units : ℕ
  pub performed : ℕ
  pub ticks : ℕ
  pub packets : ℕ
  pub messages : ℕ
  pub finished : Bool

pub record IsCounted (entries : List Entry) (counts : Counts) : Type 0 where
  pub played : counts.units ≡ frontier entries
  pub performed_are : counts.performed ≡ performed_count entries
  pub ticks_are : counts.ticks ≡ tick_count entries
  pub finished_is : counts.finished ≡ is_finished entries
  pub counted : length entries ≡ counts.performed + counts.ticks + (if counts.finished then 1 else 0)
  pub few_performed : counts.performed ≤ max_performed
  pub few_ticks : counts.ticks ≤ max_ticks
  pub to_last : counts.units ≤ last_units

pub record KeepsHistory (tempo : Pace) (entries : List Entry) (state : Kept Compiled) (queue : Queue) (counts : Counts) : Type 0 where
  pub legal : IsLegal entries
  pub changes : List (Dated Compiled)
  pub desk : IsDeskOf entries state changes
  pub counted : IsCounted entries counts
  pub packets : (packets : List (List ℕ)) → HasOsc tempo entries packets → counts.packets ≡ length packets
  pub messages : (messages : List (List ℕ)) → HasMidi entries messages → counts.messages ≡ length messages
  -- until the finish the ends wait of the notes that sound
  pub notes : is_finished entries ≡ false → Waits (time_of (frontier entries)) (tones (score (map dated_tree changes) (frontier entries))) queue
