-- What a run comes to where no device failed, and what it did where its status is 0.
--     NoneRose       no count of faults rose: of the input, the output, the log and the wires
--     HasStatus      the status of such a run, by what the words ask for
--     IsWhole        wires and log are whole, and the end line stands on the output
--     IsPrinted      status 0 of a query
--     IsPlayedOut    of a script
--     IsServedOut    of performers who are served
--     IsDrilledOut   of a drill
use Rattle.std.specs.Prelude.{◌≡◌, ◌≢◌, ◌↔◌, ℕ, ◌+◌, ◌⊎◌, true, false, IfSome, IsTrue, List, [], ◌++◌, length, None}
use Rattle.tdl_fraction.specs.Arc.{Arc}
use Rattle.tdl_io.specs.Told.{GainedExactly}
use Rattle.tdl_io.specs.Faults.{CountRose}
use Rattle.tdl_lines.specs.Lines.{lines_of, max_input}
use Rattle.tdl_event.specs.Event.{print_of}
use Rattle.tdl_meaning.specs.Pattern.{over}
use Rattle.tdl_meaning.specs.Meaning.{cyc}
use Rattle.tdl_command.specs.Tree.{PatternTree}
use Rattle.tdl_prepare.specs.Prepared.{pattern_built}
use Rattle.tdl_tempo.specs.Tempo.{Pace}
use Rattle.tdl_score.specs.declared.histories.Entry.{Entry}
use Rattle.tdl_score.specs.History.{is_finished}
use Rattle.tdl_log.specs.declared.ends.Ending.{Ending}
use Rattle.tdl_log.specs.declared.ends.PortEnd.{PortEnd}
use Rattle.tdl_log.specs.declared.ends.PortEnd.TheVariants.{Eof, Finish, Fault, Spent, Memory, Stopped}
use Rattle.tdl_log.specs.LogText.{log_text}
use Rattle.tdl_words.specs.Modes.{Asked, AskDrill, AskPlay, AskQuery, AskServe, Query, usual_pace}
use Rattle.tdl_drill.specs.Drill.{drill_lines}
use Rattle.tdl_answer.specs.Account.{Account}
use Rattle.tdl_answer.specs.EndLine.{IsEndLine, one_after_another}
use Rattle.tdl_answer.specs.Ends.{PortsEnd}
use Rattle.tdl_answer.specs.Sent.{SendsBoth}
use Rattle.tdl_answer.specs.Taken.{Taken}
use Rattle.tdl_beats.specs.Beaten.{deeds, deeds_of}
use Rattle.tdl_perform.specs.Port.{AllAnswered, ServesPort}
use Rattle.tdl_serve.specs.PortAccounts.{PortAccount}
use Rattle.tdl_app.specs.declared.query_faults.QueryRefusal.{QueryRefusal}
use Rattle.tdl_app.specs.Accounts.{Accounts}
use Rattle.tdl_app.specs.Answer.{Asks, RefusesQuery, pattern_fault}
use Rattle.tdl_app.specs.Answered.{AllPerformed, AnsweredLines, HasFinished}
use Rattle.tdl_app.specs.Cuts.{IsPlayed}

-- ---- the status where no device failed
-- the count of a device's faults rose, or stands at its last value
abbrev pub Rose : {A : Type 0} → Account A → Type 0
Rose device = CountRose device.faults_before device.faults_after

pub record NoneRose (told : Accounts) : Type 0 where
  pub input : ¬ (Rose told.input)
  pub out : ¬ (Rose told.out)
  pub log : ¬ (Rose told.log)
  pub osc : ¬ (Rose told.wires.osc)
  pub midi : ¬ (Rose told.wires.midi)

-- a case has a status of its own, and else it is 0
abbrev pub IsExactly : Type 0 → ℕ → ℕ → Type 0
IsExactly Case own status = (Case × (status ≡ own)) ⊎ (¬ Case × (status ≡ 0))

-- the pattern or the arc is refused
abbrev pub IsRefused : Query → Type 0
IsRefused query = (why : QueryRefusal) × RefusesQuery query why

-- the input gave a byte more than count, and no finish came in those that do
pub record IsSpent {input : Account ℕ} (script : Taken input) (history : List Entry) : Type 0 where
  pub past : length script.bytes ≡ max_input + 1
  pub going : is_finished history ≡ false

-- the script that was taken, along which the history came about, calls for this status
pub record PlaysTo (tempo : Pace) (history : List Entry) (input : Account ℕ) (status : ℕ) : Type 0 where
  pub script : Taken input
  pub answers : AnsweredLines tempo (lines_of script.ended script.bytes) history
  pub called : IsExactly (IsSpent script history) 6 status

abbrev pub CallsFor : Asked → Accounts → List Entry → ℕ → Type 0
CallsFor (AskQuery query) told history status = IsExactly (IsRefused query) 2 status
CallsFor (AskPlay pace) told history status = PlaysTo pace history told.input status
CallsFor (AskServe pace performers cycles) told history status = status ≡ 0
CallsFor (AskDrill start lines) told history status = status ≡ 0

-- or memory ran out
abbrev pub HasStatus : Asked → Accounts → List Entry → ℕ → Type 0
HasStatus asked told history status = CallsFor asked told history status ⊎ (status ≡ 3)

-- ---- status 0
-- all events of the query stand on the output
pub record IsPrinted (query : Query) (out : Account ℕ) : Type 0 where
  pub pattern : PatternTree
  pub arc : Arc
  pub asks : Asks query pattern arc
  pub fits : pattern_fault pattern ≡ None
  pub print : GainedExactly out.told_before out.told_after (print_of (over (cyc (pattern_built pattern).value) arc))

-- the end line stands behind the replies, if there are any
pub record IsWhole (tempo : Pace) (history : List Entry) (ends : List Ending) (replies : List (List ℕ)) (told : Accounts) : Type 0 where
  pub wires : SendsBoth tempo history told.wires
  pub log : GainedExactly told.log.told_before told.log.told_after (log_text (record { tempo = tempo; history = history; ends = ends }))
  pub line : List ℕ
  pub is_end : IsEndLine tempo history line
  pub out : GainedExactly told.out.told_before told.out.told_after (one_after_another replies ++ line)

-- the input was read to its end or to the finish, and each line up to there has its reply
pub record IsPlayedOut (tempo : Pace) (history : List Entry) (ends : List Ending) (told : Accounts) : Type 0 where
  pub script : Taken told.input
  pub answers : AnsweredLines tempo (lines_of script.ended script.bytes) history
  pub over : (IsTrue script.ended × AllPerformed answers) ⊎ HasFinished answers
  pub whole : IsWhole tempo history ends answers.replies told

-- a served port ended by its cause
pub record EndsByCause {tempo : Pace} {number : ℕ} {history : List Entry} {source sink : Account ℕ} {end : PortEnd}
    (served : ServesPort tempo number history source sink end) : Type 0 where
  -- exactly where its source was read to the end, and each line has its whole reply
  pub eof : (end ≡ Eof) ↔ (IsTrue served.script.ended × AllAnswered served.answers.begun served.answers.others)
  -- exactly where its source gave a byte more than count, and neither of these two comes
  pub spent : (end ≡ Spent) ↔ ((length served.script.bytes ≡ max_input + 1) × (end ≢ Fault) × (end ≢ Memory))
  -- only where the count of its source or of its sink rose
  pub fault : end ≡ Fault → Rose source ⊎ Rose sink
  -- these are not for ports that are served
  pub neither : (end ≢ Finish) × (end ≢ Stopped)

-- where neither of its objects failed, it ended in one of three ways
pub record IsServed (tempo : Pace) (number : ℕ) (history : List Entry) (port : PortAccount) (end : PortEnd) : Type 0 where
  pub served : ServesPort tempo number history port.source port.sink end
  pub ended : EndsByCause served
  pub unfailed : ¬ (Rose port.source) → ¬ (Rose port.sink) → (end ≡ Eof) ⊎ ((end ≡ Spent) ⊎ (end ≡ Memory))

-- the number 0 did exactly the ticks of the beats and then the finish, and each port was served
pub record IsServedOut (tempo : Pace) (cycles : ℕ) (history : List Entry) (ends : List Ending) (told : Accounts) : Type 0 where
  pub ticks : IfSome told.beats (λ beats. deeds_of 0 history ≡ deeds beats cycles)
  pub finished : is_finished history ≡ true
  pub ports : PortsEnd (λ number (port : PortAccount) end. IsServed tempo number history port end) 1 told.ports ends
  pub whole : IsWhole tempo history ends [] told

-- each line that the drill makes was played, the last one too, which is the finish
pub record IsDrilledOut (start lines : ℕ) (history : List Entry) (ends : List Ending) (told : Accounts) : Type 0 where
  pub played : IsPlayed usual_pace (drill_lines start lines) history
  pub finished : is_finished history ≡ true
  pub whole : IsWhole usual_pace history ends [] told
