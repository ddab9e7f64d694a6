-- How far the lines of an input were performed, from the start of a run on.
--     Performs     lines were performed: each was answered, its packets were sent, and its reply was put
--     Progress     the lines that a reader gave of what was taken from an input were performed, and none is the finish
--     Finishes     and the script came to its end: the finish, or that of the input
use Rattle.std.specs.Prelude.{◌≡◌, ℕ, ◌+◌, ◌≤◌, true, false, List, [], ◌∷◌, ◌++◌, length, IsTrue}
use Rattle.tdl_io.specs.Told.{GainedExactly}
use Rattle.tdl_lines.specs.Lines.{lines_of, max_input}
use Rattle.tdl_lines.specs.Reading.{Reading}
use Rattle.tdl_tempo.specs.Tempo.{Pace}
use Rattle.tdl_score.specs.History.{is_finished}
use Rattle.tdl_core.specs.Replies.{CoreState}
use Rattle.tdl_core.specs.Said.{IsLegal}
use Rattle.tdl_log.specs.declared.ends.PortEnd.{PortEnd}
use Rattle.tdl_app.specs.declared.play.End.{End}
use Rattle.tdl_app.specs.declared.play.End.TheVariants as end
use Rattle.tdl_answer.specs.Account.{Account, WireAccounts}
use Rattle.tdl_answer.specs.Goes.{Goes}
use Rattle.tdl_app.specs.Plays.{PlaysLine}
use Rattle.tdl_answer.specs.inside.Taking.{HasTaken}
use Rattle.tdl_app.specs.Played.{Performed}
use Rattle.tdl_answer.specs.EndLine.{one_after_another}
use Rattle.tdl_answer.specs.Sent.{SendsBoth}
use Rattle.tdl_answer.specs.Taken.{Taken}
use Rattle.tdl_app.specs.inside.OneLine.{Keeps}

pub record Performs (tempo : Pace) (lines : List (List ℕ)) (core : CoreState) (out : Account ℕ) (wires : WireAccounts) : Type 0 where
  pub at_tempo : core.tempo ≡ tempo
  pub replies : List (List ℕ)
  pub plays : Goes (PlaysLine tempo) [] lines core.history replies
  pub put : GainedExactly out.told_before out.told_after (one_after_another replies)
  pub sends : SendsBoth tempo core.history wires
  pub counts : Keeps out wires

pub record Progress (tempo : Pace) (reading : Reading) (core : CoreState) (input out : Account ℕ) (wires : WireAccounts) : Type 0 where
  pub took : HasTaken reading input
  pub performs : Performs tempo took.given core out wires
  pub going : is_finished core.history ≡ false

-- the finish was performed; or all lines were, and the input ended, or it gave one byte more than count
abbrev pub IsOverBy : {input : Account ℕ} → End → Taken input → List (List ℕ) → CoreState → Type 0
IsOverBy end.Finish script others core = is_finished core.history ≡ true
IsOverBy end.Input script others core = IsTrue script.ended × (others ≡ []) × (is_finished core.history ≡ false)
IsOverBy end.Spent script others core = (length script.bytes ≡ max_input + 1) × (others ≡ []) × (is_finished core.history ≡ false)

-- a script came to this end, whatever is put and answered afterwards
pub record Finishes (tempo : Pace) (end : End) (core : CoreState) (input out : Account ℕ) (wires : WireAccounts) : Type 0 where
  pub script : Taken input
  pub given : List (List ℕ)
  pub others : List (List ℕ)
  pub lines : lines_of script.ended script.bytes ≡ given ++ others
  pub over : IsOverBy end script others core
  pub kept : input.faults_before ≤ input.faults_after
  pub performs : Performs tempo given core out wires

-- a script was played with this status and this end of its port; that its history is legal is said elsewhere
abbrev pub Ends : Pace → ℕ → PortEnd → CoreState → Account ℕ → Account ℕ → WireAccounts → Type 0
Ends tempo status end core input out wires =
    IsLegal core.history → Performed tempo status core.history (record { port = 0; end = end } ∷ []) input out wires
