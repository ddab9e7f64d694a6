-- A log that is read line by line.
--     empty_log      no entries, and no port ended
--     begun_lines    the lines of a log but for the last one; begun_pieces, as they are cut
--     IsReadTo       these lines of a text were read, up to an offset
--     least_port     the least number that a port may have behind these
--     MayStand       what a line tells may stand next in a log
--     line_of        that line
--     with_line      the log with what it tells
--     Holds          what a walk holds is a log, and what it knows of it is so
use Rattle.std.specs.Prelude.{◌≡◌, ℕ, ◌+◌, ◌<◌, ◌≤◌, Bool, true, false, List, [], ◌∷◌, ◌++◌, length, map, drop}
use Rattle.tdl_score.specs.History.{MayFollow}
use Rattle.tdl_score.specs.Known.{Tells}
use Rattle.tdl_score.specs.Readings.{IsReading, Reading}
use Rattle.tdl_tempo.specs.Tempo.{Pace}
use Rattle.tdl_log.specs.declared.ends.Ending.{Ending}
use Rattle.tdl_log.specs.declared.walks.Line.{Line}
use Rattle.tdl_log.specs.declared.walks.Line.TheVariants as told
use Rattle.tdl_log.specs.declared.walks.Walk.{Walk}
use Rattle.tdl_log.specs.Log.{AreRising, Log, log_of}
use Rattle.tdl_log.specs.LogGrammar.{IsSheet}
use Rattle.tdl_log.specs.LogText.{cps_line, end_line, entry_line, entry_lines, head_line, origin_line, port_line}
use Rattle.tdl_log.specs.Pieces.{Piece, line, cut, size}

abbrev pub empty_log : Pace → Log
empty_log tempo = record { tempo = tempo; history = []; ends = [] }

abbrev pub begun_lines : Log → List (List ℕ)
begun_lines log = head_line ∷ cps_line log.tempo ∷ origin_line log.tempo ∷ (entry_lines 0 log.history ++ map port_line log.ends)

abbrev pub begun_pieces : Log → List Piece
begun_pieces log = map line (begun_lines log)

pub record IsReadTo (lines : List (List ℕ)) (text : List ℕ) (at : ℕ) : Type 0 where
  pub pieces : cut text ≡ map line lines ++ cut (drop at text)
  pub offset : at ≡ size (map line lines)
  pub within : at ≤ length text

abbrev pub least_from : ℕ → List Ending → ℕ
least_from port [] = port
least_from port (ending ∷ ends) = least_from (ending.port + 1) ends

abbrev pub least_port : List Ending → ℕ
least_port ends = least_from 0 ends

abbrev pub MayStand : Reading → Log → Line → Type 0
MayStand Reads log (told.Entry e) = (log.ends ≡ []) × MayFollow Reads log.history e
MayStand Reads log (told.Port ending) = AreRising (log.ends ++ ending ∷ []) × (length log.ends < 8)
MayStand Reads log told.Last = Unit {0}

abbrev pub line_of : Log → Line → List ℕ
line_of log (told.Entry e) = entry_line (length log.history) e
line_of log (told.Port ending) = port_line ending
line_of log told.Last = end_line (length log.history)

pub record IsNext (Reads : Reading) (log : Log) (bytes : List ℕ) (told : Line) : Type 0 where
  pub stands : MayStand Reads log told
  pub spelled : bytes ≡ line_of log told

abbrev pub with_line : Log → Line → Log
with_line log (told.Entry e) = record log { history = log.history ++ e ∷ [] }
with_line log (told.Port ending) = record log { ends = log.ends ++ ending ∷ [] }
with_line log told.Last = log

abbrev pub is_end : Line → Bool
is_end (told.Entry e) = false
is_end (told.Port ending) = false
is_end told.Last = true

pub record Holds (Reads : Reading) (walk : Walk) : Type 0 where
  pub reading : IsReading Reads
  pub sheet : IsSheet Reads (log_of walk.sheet)
  pub known : Tells walk.known walk.sheet.history.entries
  pub least : walk.least_port ≡ least_port walk.sheet.ends
