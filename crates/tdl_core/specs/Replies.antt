-- What a call does to a history, and what it is answered.
--     core_of        the core of a tempo that accepted these entries
--     MayCall        who may make which call, after such entries of their own
--     entry_of       the entry that an accepted call adds
--     refusal_of     why a history refuses a call, if it does
--     Accepts        a call was accepted
--     Answers        what a call comes to
use Rattle.std.specs.Prelude.{◌≡◌, ℕ, ◌+◌, ◌/◌, ◌≤◌, nat_lt, nat_le, List, [], ◌∷◌, ◌++◌, length, Option, Some, None, if◌then◌else◌, ◌⊎◌}
use Rattle.std.specs.Prelude.{Result, Err, IsOk, IfOk, IfErr, OnErr, IfSome, false}
use Rattle.tdl_fraction.specs.Units.{tick_units, last_units}
use Rattle.tdl_tempo.specs.Tempo.{Pace}
use Rattle.tdl_desk.specs.declared.changes.Dated.{Dated}
use Rattle.tdl_desk.specs.Changes.{map_change}
use Rattle.tdl_desk.specs.Desk.{desk}
use Rattle.tdl_expr.specs.Tree.{Tree}
use Rattle.tdl_score.specs.declared.histories.Entry.{Entry}
use Rattle.tdl_score.specs.declared.histories.Deed.{Deed}
use Rattle.tdl_score.specs.declared.histories.Deed.TheVariants as deed
use Rattle.tdl_score.specs.History.{frontier, boundary_of, is_finished, performed_count, tick_count, max_performed, max_ticks}
use Rattle.tdl_score.specs.Programs.{program_tree}
use Rattle.tdl_core.specs.declared.calls.Call.{Call}
use Rattle.tdl_core.specs.declared.calls.Call.TheVariants.{Swap, Look, Tick, Finish}
use Rattle.tdl_core.specs.declared.replies.Reply.{Reply}
use Rattle.tdl_core.specs.declared.replies.Reply.TheVariants.{Swapped, Looked, Ticked, Finished}
use Rattle.tdl_core.specs.declared.replies.Refusal.{Refusal}
use Rattle.tdl_core.specs.declared.replies.Refusal.TheVariants.{NoMemory, Full, Backward, TooLong, PastLast}
use Rattle.tdl_core.specs.Said.{Says, HasChanges, HasMidi, HasOsc}
use Rattle.tdl_core.specs.Looks.{look_text}
use Rattle.tdl_core.specs.ReplyLines.{HasFrontier}

-- a core: its tempo, and what it accepted
pub record CoreState : Type 0 where
  pub tempo : Pace
  pub history : List Entry

abbrev pub core_of : Pace → List Entry → CoreState
core_of tempo entries = record { tempo = tempo; history = entries }

abbrev pub IsPerformer : ℕ → Type 0
IsPerformer who = (1 ≤ who) × (who ≤ 8)

-- ticks and the finish have the number 0, and none comes after that number's finish
pub record MayPlay (own : List Entry) (who : ℕ) : Type 0 where
  pub ticker : who ≡ 0
  pub going : is_finished own ≡ false

-- performers change what is played, by texts that say so, and look at it
abbrev pub MayCall : List Entry → ℕ → Call → Type 0
MayCall own who (Swap text every change) = IsPerformer who × Says text every (map_change program_tree change)
MayCall own who Look = IsPerformer who
MayCall own who (Tick to) = MayPlay own who
MayCall own who Finish = MayPlay own who

abbrev pub deed_of : List Entry → Call → Deed
deed_of entries (Swap text every change) = deed.Swap (boundary_of (frontier entries) every) text
deed_of entries Look = deed.Look
deed_of entries (Tick to) = deed.Tick to
deed_of entries Finish = deed.Finish

abbrev pub entry_of : List Entry → ℕ → Call → Entry
entry_of entries who call = record { who = who; frontier = frontier entries; deed = deed_of entries call }

-- why a tick to so many units is refused after so many ticks up to a frontier; the first reason counts
abbrev pub tick_refusal : ℕ → ℕ → ℕ → Option Refusal
tick_refusal frontier ticks to =
    if nat_lt last_units to then Some (PastLast frontier)
    else (if nat_le to frontier then Some (Backward frontier)
    else (if nat_lt (frontier + tick_units) to then Some (TooLong frontier)
    else (if nat_le max_ticks ticks then Some (Full max_ticks)
    else None)))

-- of a swap or a look after so many
abbrev pub performer_refusal : ℕ → Option Refusal
performer_refusal performed = if nat_le max_performed performed then Some (Full max_performed) else None

abbrev pub refusal_of : List Entry → Call → Option Refusal
refusal_of entries (Swap text every change) = performer_refusal (performed_count entries)
refusal_of entries Look = performer_refusal (performed_count entries)
refusal_of entries (Tick to) = tick_refusal (frontier entries) (tick_count entries) to
refusal_of entries Finish = None

-- what each wire is to get with a reply
abbrev pub osc_with : Reply → List (List ℕ)
osc_with (Swapped place boundary) = []
osc_with (Looked place text) = []
osc_with (Ticked place packets messages) = packets
osc_with (Finished place messages) = []

abbrev pub midi_with : Reply → List (List ℕ)
midi_with (Swapped place boundary) = []
midi_with (Looked place text) = []
midi_with (Ticked place packets messages) = messages
midi_with (Finished place messages) = messages

-- the reply of an accepted call: the place of its entry, and from which cycle on a change holds, or what a look sees in
-- the cycle of the frontier
abbrev pub IsReply : List Entry → List (Dated Tree) → Call → Reply → Type 0
IsReply entries changes (Swap text every change) reply = reply ≡ Swapped (length entries) (boundary_of (frontier entries) every)
IsReply entries changes Look reply =
    reply ≡ Looked (length entries) (look_text (desk changes (frontier entries / tick_units)) (frontier entries) (length entries))
IsReply entries changes (Tick to) reply = (packets : List (List ℕ)) × (messages : List (List ℕ)) × (reply ≡ Ticked (length entries) packets messages)
IsReply entries changes Finish reply = (messages : List (List ℕ)) × (reply ≡ Finished (length entries) messages)

pub record Accepts (old new : CoreState) (who : ℕ) (call : Call) (reply : Reply) : Type 0 where
  -- nothing refused the call
  pub allowed : refusal_of old.history call ≡ None
  -- the history gained one entry, that of the call
  pub gained : new.history ≡ old.history ++ entry_of old.history who call ∷ []
  pub answer : (changes : List (Dated Tree)) → HasChanges old.history changes → IsReply old.history changes call reply
  -- what the history sends goes on by what goes with the reply
  pub packets : (packets : List (List ℕ)) → HasOsc old.tempo old.history packets → HasOsc old.tempo new.history (packets ++ osc_with reply)
  pub messages : (messages : List (List ℕ)) → HasMidi old.history messages → HasMidi new.history (messages ++ midi_with reply)
  pub tempo : new.tempo ≡ old.tempo

-- what a call comes to: accepted, refused for the history's reason, or out of memory, but for the finish, which always is
-- accepted; what is not accepted changes nothing
pub record Answers (old new : CoreState) (who : ℕ) (call : Call) (result : Result Reply Refusal) : Type 0 where
  pub ok : IfOk result (Accepts old new who call)
  pub refused : IfSome (refusal_of old.history call) (λ refusal. result ≡ Err refusal)
  pub only : IfErr result (λ refusal. (refusal_of old.history call ≡ Some refusal) ⊎ (refusal ≡ NoMemory))
  pub frontier : IfErr result HasFrontier
  pub err : OnErr result (new ≡ old)
  pub finish : call ≡ Finish → IsOk result
