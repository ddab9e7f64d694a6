-- Logs as a grammar: its tokens are lines, its trees logs.
--     IsSheet       a log of a legal history with at most eight ports, where texts are read so
--     pieces_of     the lines of a log, with nothing behind them
--     wrong_kind    the kind of a line with which no log goes on
--     wrong_at      its first byte; a text that ends too early has its fault at its end
--     log_grammar   the grammar
--     RefusesLog    why a text is refused: the first fault of its lines
use Rattle.std.specs.Prelude.{◌≡◌, ℕ, ◌+◌, ◌≤◌, false, List, [], ◌∷◌, ◌++◌, length, map, if◌then◌else◌}
use Rattle.std.specs.List.{list_any}
use Rattle.tdl_control.specs.declared.faults.Faulted.{Faulted}
use Rattle.tdl_control.specs.declared.faults.Faulted.TheVariants.{NoMemory, At}
use Rattle.tdl_grammar.specs.Grammar.{Grammar}
use Rattle.tdl_grammar.specs.Faults.{IsFault}
use Rattle.tdl_score.specs.Readings.{Reading}
use Rattle.tdl_log.specs.declared.kinds.LogKind.{LogKind}
use Rattle.tdl_log.specs.declared.kinds.LogKind.TheVariants.{Form}
use Rattle.tdl_log.specs.LineKinds.{is_last, is_line_of, line_kind}
use Rattle.tdl_log.specs.Log.{IsRunLog, Log}
use Rattle.tdl_log.specs.LogText.{log_lines}
use Rattle.tdl_log.specs.Pieces.{Piece, line, rest, cut, size}

pub record IsSheet (Reads : Reading) (log : Log) : Type 0 where
  pub run : IsRunLog Reads log
  pub ports : length log.ends ≤ 8

abbrev pub pieces_of : Log → List Piece
pieces_of log = map line (log_lines log) ++ rest [] ∷ []

pub record IsPieces (Reads : Reading) (pieces : List Piece) (log : Log) : Type 0 where
  pub sheet : IsSheet Reads log
  pub spelled : pieces ≡ pieces_of log

abbrev pub wrong_kind : List Piece → Piece → LogKind
wrong_kind front (line bytes) = line_kind front bytes
wrong_kind front (rest bytes) = Form

-- bytes behind a whole log are wrong from their first on
abbrev pub wrong_at : List Piece → Piece → ℕ
wrong_at front (line bytes) = size front
wrong_at front (rest bytes) = if list_any (is_line_of is_last) front then size front else size front + length bytes

abbrev pub log_grammar : Reading → Grammar
log_grammar Reads = record {
  Token = Piece;
  Tree = Log;
  Kind = LogKind;
  Place = ℕ;
  Reads = IsPieces Reads;
  tests = λ log. [];
  is_joined = λ piece. false;
  wrong_kind = wrong_kind;
  wrong_at = wrong_at;
}

-- out of memory says nothing of the text
abbrev pub RefusesLog : Reading → List ℕ → Faulted LogKind → Type 0
RefusesLog Reads text NoMemory = Unit {0}
RefusesLog Reads text (At kind at) = IsFault (log_grammar Reads) (cut text) kind at
