-- What is known of a history that grows an entry at a time.
--     Tells    five numbers tell of these entries how many they are, up to where the last tick played, how many swaps
--              and looks and how many ticks there are, and whether the finish is among them
use Rattle.std.specs.Prelude.{◌≡◌, List, length}
use Rattle.tdl_score.specs.declared.histories.Entry.{Entry}
use Rattle.tdl_score.specs.declared.known.Known.{Known}
use Rattle.tdl_score.specs.History.{frontier, is_finished, performed_count, tick_count}

pub record Tells (known : Known) (entries : List Entry) : Type 0 where
  pub place : known.place ≡ length entries
  pub frontier : known.frontier ≡ frontier entries
  pub performed : known.performed ≡ performed_count entries
  pub ticks : known.ticks ≡ tick_count entries
  pub finished : known.finished ≡ is_finished entries
