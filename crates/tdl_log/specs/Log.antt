-- What a log tells.
--     Log          the tempo of a run, what was accepted, and how its ports ended
--     AreRising    ports below 256, each above the one before
--     IsRunLog     a log of a legal history, where texts are read so
use Rattle.std.specs.Prelude.{ℕ, ◌+◌, ◌^◌, ◌<◌, ◌≤◌, List, [], ◌∷◌}
use Rattle.tdl_tempo.specs.Tempo.{IsCps, Pace}
use Rattle.tdl_score.specs.declared.histories.Entry.{Entry}
use Rattle.tdl_score.specs.History.{IsLegal}
use Rattle.tdl_score.specs.Readings.{Reading}
use Rattle.tdl_log.specs.declared.ends.Ending.{Ending}
use Rattle.tdl_log.specs.declared.sheets.Sheet.{Sheet}

pub record Log : Type 0 where
  pub tempo : Pace
  pub history : List Entry
  pub ends : List Ending

abbrev pub log_of : Sheet → Log
log_of sheet = record { tempo = sheet.tempo; history = sheet.history.entries; ends = sheet.ends }

-- from a port on
abbrev pub RiseFrom : ℕ → List Ending → Type 0
RiseFrom port [] = Unit {0}
RiseFrom port (ending ∷ ends) = (port ≤ ending.port) × (ending.port < 256) × RiseFrom (ending.port + 1) ends

abbrev pub AreRising : List Ending → Type 0
AreRising ends = RiseFrom 0 ends

pub record IsRunLog (Reads : Reading) (log : Log) : Type 0 where
  pub cps : IsCps log.tempo.cps
  pub origin : log.tempo.origin < 2 ^ 32
  pub legal : IsLegal Reads log.history
  pub rising : AreRising log.ends
