-- What one line of a script does to a core, an output and the wires.
--     GoesOnBy      what the core calls for goes on by some packets and messages
--     SentAll       what the core calls for more was sent
--     SentFront     a front of it was sent
--     Answered      a line or a call was answered: its packets were sent, and then its reply was put
--     Broke         the same up to a fault, or up to where memory ran out
--     AnsweredSoFar what the outcome tells of the two; RepliedSoFar the same before the reply is put
use Rattle.std.specs.Prelude.{◌≡◌, ℕ, ◌≤◌, ◌⊎◌, List, [], ◌∷◌, ◌++◌, Result, Ok, Err, IsTrue}
use Rattle.tdl_io.specs.Told.{GainedExactly}
use Rattle.tdl_io.specs.Faults.{CountRose}
use Rattle.tdl_core.specs.declared.calls.Call.{Call}
use Rattle.tdl_score.specs.declared.histories.Entry.{Entry}
use Rattle.tdl_core.specs.declared.replies.Reply.{Reply}
use Rattle.tdl_core.specs.Replies.{CoreState}
use Rattle.tdl_core.specs.Said.{HasMidi, HasOsc}
use Rattle.tdl_score.specs.History.{plays}
use Rattle.tdl_app.specs.declared.stops.Stop.{Stop}
use Rattle.tdl_app.specs.declared.stops.Stop.TheVariants.{Memory, Fault, Input}
use Rattle.tdl_answer.specs.Account.{Account, KeepsWires, WireAccounts}
use Rattle.tdl_answer.specs.Sent.{SentUpTo, SentWith, SentWithUpTo}
use Rattle.tdl_answer.specs.Ends.{AnyHasFailed}
use Rattle.tdl_app.specs.Plays.{AnswersClass}
use Rattle.tdl_answer.specs.Answers.{AnswersCall, no_memory_reply}
use Rattle.tdl_app.specs.Script.{LineClass, class_of}

-- what the history of a core sends goes on by these packets and these messages
pub record GoesOnBy (old new : CoreState) (packets messages : List (List ℕ)) : Type 0 where
  pub osc : (all : List (List ℕ)) → HasOsc old.tempo old.history all → HasOsc old.tempo new.history (all ++ packets)
  pub midi : (all : List (List ℕ)) → HasMidi old.history all → HasMidi new.history (all ++ messages)

-- no count of faults fell
pub record Keeps (out : Account ℕ) (wires : WireAccounts) : Type 0 where
  pub out_count : out.faults_before ≤ out.faults_after
  pub osc_count : wires.osc.faults_before ≤ wires.osc.faults_after
  pub midi_count : wires.midi.faults_before ≤ wires.midi.faults_after

-- a wire may have caused the stop
abbrev pub HasWireCause : Stop → WireAccounts → Type 0
HasWireCause Memory wires = Unit {0}
HasWireCause Fault wires = CountRose wires.osc.faults_before wires.osc.faults_after ⊎ CountRose wires.midi.faults_before wires.midi.faults_after
HasWireCause Input wires = ⊥

-- the output or a wire may; the input is not asked here
abbrev pub StopHasCause : Stop → Account ℕ → WireAccounts → Type 0
StopHasCause Memory out wires = Unit {0}
StopHasCause Fault out wires = AnyHasFailed out wires
StopHasCause Input out wires = ⊥

-- a front of a text was put, and none of it where memory ran out
pub record PutFront (text : List ℕ) (stop : Stop) (out : Account ℕ) : Type 0 where
  pub front : List ℕ
  pub missing : List ℕ
  pub parts : text ≡ front ++ missing
  pub gained : GainedExactly out.told_before out.told_after front
  pub memory : stop ≡ Memory → front ≡ []

-- a stop that the output alone may have caused
abbrev pub HasOutCause : Stop → Account ℕ → Type 0
HasOutCause Memory out = Unit {0}
HasOutCause Fault out = CountRose out.faults_before out.faults_after
HasOutCause Input out = ⊥

-- a text was put up to a fault
pub record BrokeText (text : List ℕ) (stop : Stop) (out : Account ℕ) : Type 0 where
  pub put : PutFront text stop out
  pub cause : HasOutCause stop out

-- what the output knows then: it was not called, or its put failed
abbrev pub IsUnput : {K : Type 0} → (K → List ℕ → K → Type 0) → K → K → Type 0
IsUnput broke old new = (new ≡ old) ⊎ ((text : List ℕ) × broke old text new)

-- what goes with a reply was sent, or not all of it, and then the reply has no line
pub record BrokeReply (reply : Reply) (stop : Stop) (wires : WireAccounts) : Type 0 where
  pub sent : SentWith reply wires ⊎ SentWithUpTo reply wires
  pub cause : HasWireCause stop wires

pub record SentAll (old new : CoreState) (wires : WireAccounts) : Type 0 where
  pub packets : List (List ℕ)
  pub messages : List (List ℕ)
  pub grows : GoesOnBy old new packets messages
  pub gained_packets : GainedExactly wires.osc.told_before wires.osc.told_after packets
  pub gained_messages : GainedExactly wires.midi.told_before wires.midi.told_after messages

-- the last entry is a tick's or the finish
pub record SentFront (old new : CoreState) (wires : WireAccounts) : Type 0 where
  pub entry : Entry
  pub last : new.history ≡ old.history ++ entry ∷ []
  pub played : IsTrue (plays entry.deed)
  pub packets : List (List ℕ)
  pub messages : List (List ℕ)
  pub grows : GoesOnBy old new packets messages
  pub some_packets : SentUpTo packets wires.osc
  pub some_messages : SentUpTo messages wires.midi

-- what is answered is a call, for which there may be no memory where a performer makes it, or a line
abbrev pub AnswersOr : CoreState → ℕ → Call → List Entry → List ℕ → Type 0
AnswersOr old who call history reply =
    AnswersCall old.tempo old.history who call history reply ⊎ ((1 ≤ who) × (history ≡ old.history) × (reply ≡ no_memory_reply))

abbrev pub AnswersOf : CoreState → LineClass → List Entry → List ℕ → Type 0
AnswersOf old class history reply = AnswersClass old.tempo old.history class history reply

abbrev pub AnswersAs : CoreState → List ℕ → List Entry → List ℕ → Type 0
AnswersAs old line = AnswersOf old (class_of line)

-- ---- answered, up to the reply
-- it is answered by this reply, which is to be put
pub record Replied (Answer : List Entry → List ℕ → Type 0) (old new : CoreState) (reply : List ℕ) (wires : WireAccounts) : Type 0 where
  pub tempo : new.tempo ≡ old.tempo
  pub answer : Answer new.history reply
  pub sent : SentAll old new wires
  pub counts : KeepsWires wires

-- nothing was done
pub record Rests (old new : CoreState) (stop : Stop) (wires : WireAccounts) : Type 0 where
  pub same : new ≡ old
  pub packets : GainedExactly wires.osc.told_before wires.osc.told_after []
  pub messages : GainedExactly wires.midi.told_before wires.midi.told_after []
  pub memory : stop ≡ Memory

-- it was answered, but there is no reply to be put
pub record Lacks (Answer : List Entry → List ℕ → Type 0) (old new : CoreState) (wires : WireAccounts) : Type 0 where
  pub tempo : new.tempo ≡ old.tempo
  pub reply : List ℕ
  pub answer : Answer new.history reply
  pub sent : SentAll old new wires ⊎ SentFront old new wires

pub record Unreplied (Answer : List Entry → List ℕ → Type 0) (old new : CoreState) (stop : Stop) (wires : WireAccounts) : Type 0 where
  pub how : Rests old new stop wires ⊎ Lacks Answer old new wires
  pub cause : HasWireCause stop wires
  pub counts : KeepsWires wires

abbrev pub RepliedSoFar : (List Entry → List ℕ → Type 0) → CoreState → CoreState → Result (List ℕ) Stop → WireAccounts → Type 0
RepliedSoFar Answer old new (Ok reply) wires = Replied Answer old new reply wires
RepliedSoFar Answer old new (Err stop) wires = Unreplied Answer old new stop wires

-- ---- answered, with the reply
pub record Answered (Answer : List Entry → List ℕ → Type 0) (old new : CoreState) (out : Account ℕ) (wires : WireAccounts) : Type 0 where
  pub tempo : new.tempo ≡ old.tempo
  pub reply : List ℕ
  pub answer : Answer new.history reply
  pub put : GainedExactly out.told_before out.told_after reply
  pub sent : SentAll old new wires
  pub counts : Keeps out wires

-- nothing was done
pub record Idle (old new : CoreState) (stop : Stop) (out : Account ℕ) (wires : WireAccounts) : Type 0 where
  pub same : new ≡ old
  pub put : GainedExactly out.told_before out.told_after []
  pub packets : GainedExactly wires.osc.told_before wires.osc.told_after []
  pub messages : GainedExactly wires.midi.told_before wires.midi.told_after []
  pub memory : stop ≡ Memory

-- it was answered, but its packets or its reply are not all there
pub record Begins (Answer : List Entry → List ℕ → Type 0) (old new : CoreState) (stop : Stop) (out : Account ℕ) (wires : WireAccounts) : Type 0 where
  pub tempo : new.tempo ≡ old.tempo
  pub reply : List ℕ
  pub answer : Answer new.history reply
  pub put : PutFront reply stop out
  pub sent : SentAll old new wires ⊎ ((put.front ≡ []) × SentFront old new wires)

pub record Broke (Answer : List Entry → List ℕ → Type 0) (old new : CoreState) (stop : Stop) (out : Account ℕ) (wires : WireAccounts) : Type 0 where
  pub how : Idle old new stop out wires ⊎ Begins Answer old new stop out wires
  pub cause : StopHasCause stop out wires
  pub counts : Keeps out wires

abbrev pub AnsweredSoFar : {T : Type 0} → (List Entry → List ℕ → Type 0) → CoreState → CoreState → Result T Stop → Account ℕ → WireAccounts → Type 0
AnsweredSoFar Answer old new (Ok value) out wires = Answered Answer old new out wires
AnsweredSoFar Answer old new (Err stop) out wires = Broke Answer old new stop out wires
