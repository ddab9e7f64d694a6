-- How far a script is played without replies, from the start of a run on.
--     PlaysOn      lines were played: each was answered, and all that goes with them was sent
--     StopsAt      the first lines were, and then a send failed or memory ran out
--     LineStops    a line at which it stops: it was left out, or it was answered and not all that goes with it is done
--     ScriptEnds   the script was played with this status and this end of its port
use Rattle.std.specs.Prelude.{◌≡◌, ◌≢◌, ◌⊎◌, ℕ, true, false, List, [], ◌∷◌, ◌++◌}
use Rattle.tdl_tempo.specs.Tempo.{Pace}
use Rattle.tdl_score.specs.History.{is_finished}
use Rattle.tdl_core.specs.Replies.{CoreState}
use Rattle.tdl_core.specs.Said.{IsLegal}
use Rattle.tdl_log.specs.declared.ends.PortEnd.{PortEnd}
use Rattle.tdl_drill.specs.Drill.{drill_lines}
use Rattle.tdl_answer.specs.Account.{Account, KeepsWires, WireAccounts}
use Rattle.tdl_answer.specs.Answers.{no_memory_reply}
use Rattle.tdl_answer.specs.Sent.{Sends, SendsBoth}
use Rattle.tdl_app.specs.declared.stops.Stop.{Stop}
use Rattle.tdl_app.specs.Cuts.{IsPlayed}
use Rattle.tdl_app.specs.Drilled.{PlayedThrough}
use Rattle.tdl_app.specs.inside.OneLine.{AnswersAs, HasWireCause, Lacks, Replied, SentAll}

pub record PlaysOn (tempo : Pace) (lines : List (List ℕ)) (core : CoreState) (wires : WireAccounts) : Type 0 where
  pub at_tempo : core.tempo ≡ tempo
  pub answers : IsPlayed tempo lines core.history
  pub sends : SendsBoth tempo core.history wires
  pub counts : KeepsWires wires

-- so the lines of a script that are not left; none of them is the finish where some are left
pub record PlaysSoFar (tempo : Pace) (script left : List (List ℕ)) (core : CoreState) (wires : WireAccounts) : Type 0 where
  pub lines : List (List ℕ)
  pub parts : script ≡ lines ++ left
  pub plays : PlaysOn tempo lines core wires
  pub going : (is_finished core.history ≡ false) ⊎ (left ≡ [])

-- the lines of a drill
abbrev pub AreDrilled : List (List ℕ) → Type 0
AreDrilled script = (start : ℕ) × (count : ℕ) × (script ≡ drill_lines start count)

pub record StopsAt (tempo : Pace) (script : List (List ℕ)) (stop : Stop) (core : CoreState) (wires : WireAccounts) : Type 0 where
  pub lines : List (List ℕ)
  pub rest : List (List ℕ)
  pub parts : script ≡ lines ++ rest
  pub answers : IsPlayed tempo lines core.history
  pub packets : Sends true tempo core.history wires
  pub cause : HasWireCause stop wires
  pub counts : KeepsWires wires

-- ---- one line
-- it was answered, but not that there is no memory
pub record LinePlays (line : List ℕ) (old new : CoreState) (wires : WireAccounts) : Type 0 where
  pub reply : List ℕ
  pub replied : Replied (AnswersAs old line) old new reply wires
  pub memory : reply ≢ no_memory_reply

pub data LineStops (line : List ℕ) (old new : CoreState) (stop : Stop) (wires : WireAccounts) : Type 0 where
  left_out : new.history ≡ old.history → SentAll old new wires → HasWireCause stop wires → LineStops line old new stop wires
  begun : (lacks : Lacks (AnswersAs old line) old new wires) → lacks.reply ≢ no_memory_reply → HasWireCause stop wires → LineStops line old new stop wires

-- ---- the end
abbrev pub ScriptEnds : Pace → List (List ℕ) → ℕ → PortEnd → CoreState → Account ℕ → WireAccounts → Type 0
ScriptEnds tempo script status end core out wires =
    IsLegal core.history → PlayedThrough tempo script status core.history (record { port = 0; end = end } ∷ []) out wires
