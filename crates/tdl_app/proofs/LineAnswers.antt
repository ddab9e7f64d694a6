-- From sends and what a core answers to what a line does.
--     broke_sending                              a reply of which no more than some was sent
--     replied_alone                              an answer that leaves the core as it is
--     reply_so_far, refusal_so_far, unmade_so_far
--                                                what one outcome tells of a call that was accepted, of one that was refused, and of a text that makes none
--     none_of                                    what is not among all entries is not among a caller's
--     may_play                                   who may make the call of a tick
--     text_so_far, tick_so_far, finish_so_far    a line that makes a call
--     class_so_far                               a line of a class
--     unreplied_so_far, unput_so_far, put_so_far
--                                                what the outcome tells once the reply is put, or where there is none
use Rattle.std.proofs.Common.{◌≡◌, ℕ, ◌≤◌, ◌⊎◌, inl, inr, Bool, true, false, ◌==◌, cond, List, [], ◌∷◌, filter, Option, Some}
use Rattle.std.proofs.Common.{Result, Ok, Err, IfErr, OnOk, IsTrue, refl, ap, sym, subst, append-nil, arith}
use Rattle.std.specs.Prelude.{IfOk}
use Rattle.std.specs.List.{list_any}
use Rattle.std.proofs.lemmas.Bool.{false≢true, or_from, or_parts}
use Rattle.tdl_fraction.specs.Units.{time_of}
use Rattle.tdl_io.specs.Told.{GainedExactly}
use Rattle.tdl_io.specs.Faults.{CountRose}
use Rattle.tdl_io.proofs.Told.{gained_nothing}
use Rattle.tdl_desk.specs.declared.changes.Dated.{Dated}
use Rattle.tdl_expr.specs.Tree.{Tree}
use Rattle.tdl_score.specs.declared.histories.Entry.{Entry}
use Rattle.tdl_score.specs.History.{entries_of, frontier, is_finish_deed, is_finished, plays}
use Rattle.tdl_core.specs.declared.calls.Call.{Call}
use Rattle.tdl_core.specs.declared.calls.Call.TheVariants as call
use Rattle.tdl_core.specs.declared.replies.Reply.{Reply}
use Rattle.tdl_core.specs.declared.replies.Refusal.{Refusal}
use Rattle.tdl_core.specs.declared.replies.Refusal.TheVariants.{NoMemory}
use Rattle.tdl_core.specs.Said.{HasChanges, HasMidi, HasOsc}
use Rattle.tdl_core.specs.Replies.{CoreState, MayPlay, Accepts, refusal_of, deed_of, entry_of, midi_with, osc_with}
use Rattle.tdl_core.specs.ReplyLines.{reply_line, refusal_line}
use Rattle.tdl_answer.specs.declared.asked.Unmade.{Unmade}
use Rattle.tdl_answer.specs.declared.asked.Unmade.TheVariants as unmade
use Rattle.tdl_answer.specs.Account.{Account, KeepsWires, WireAccounts}
use Rattle.tdl_answer.specs.Asked.{IsUnmade, unmade_line}
use Rattle.tdl_answer.specs.Texts.{AsksFor}
use Rattle.tdl_answer.specs.Answers.{AnswersCall, AnswersText}
use Rattle.tdl_answer.proofs.DeviceCalls.{still, still_both}
use Rattle.tdl_app.specs.declared.wires.Wires.{Wires}
use Rattle.tdl_app.specs.declared.stops.Stop.{Stop}
use Rattle.tdl_app.specs.declared.stops.Stop.TheVariants.{Memory, Fault, Input}
use Rattle.tdl_app.specs.Script.{LineClass, performers, tick, finish, class_of, ReadsTime}
use Rattle.tdl_app.specs.Plays.{AnswersTick}
use Rattle.tdl_app.specs.inside.OneLine.{AnsweredSoFar, AnswersAs, AnswersOf, AnswersOr, Broke, BrokeReply, BrokeText, StopHasCause, HasOutCause}
use Rattle.tdl_app.specs.inside.OneLine.{HasWireCause, Keeps, Replied, RepliedSoFar, SentAll, SentFront}
use Rattle.tdl_app.specs.inside.OneLine.{Unreplied}
use Rattle.tdl_answer.specs.Sent.{SentWith, SentWithUpTo, is_play_reply}

abbrev pub Answering : Type 1
Answering = List Entry → List ℕ → Type 0

-- ---- a reply of which no more than some was sent
pub broke_sending : (reply : Reply) (wires : WireAccounts) → SentWithUpTo reply wires
    → CountRose wires.osc.faults_before wires.osc.faults_after ⊎ CountRose wires.midi.faults_before wires.midi.faults_after → BrokeReply reply Fault wires
broke_sending reply wires some rose = record { sent = inr some; cause = rose }

-- ---- a call that a core accepted
sent_all : {old new : CoreState} {who : ℕ} {call : Call} {reply : Reply} {wires : WireAccounts} → Accepts old new who call reply → SentWith reply wires
    → SentAll old new wires
sent_all {old} {new} {who} {call} {reply} accepts sent = record {
  packets = osc_with reply;
  messages = midi_with reply;
  grows = record { osc = accepts.packets; midi = accepts.messages };
  gained_packets = sent.packets;
  gained_messages = sent.messages;
}

-- what the history of a core makes
abbrev pub MakesChanges : CoreState → Type 0
MakesChanges core = (changes : List (Dated Tree)) × HasChanges core.history changes

-- a tick or the finish
play_front : {old new : CoreState} {who : ℕ} {call : Call} {reply : Reply} {wires : WireAccounts} → Accepts old new who call reply
    → IsTrue (plays (deed_of old.history call)) → SentWithUpTo reply wires → SentFront old new wires
play_front {old} {new} {who} {call} {reply} accepts played some = record {
  entry = entry_of old.history who call;
  last = accepts.gained;
  played = played;
  packets = osc_with reply;
  messages = midi_with reply;
  grows = record { osc = accepts.packets; midi = accepts.messages };
  some_packets = some.packets;
  some_messages = some.messages;
}

-- no other call sends
plays_too : (reply second : Reply) → reply ≡ second → IsTrue (is_play_reply reply) → IsTrue (is_play_reply second)
plays_too reply second same played = subst (λ (r : Reply). IsTrue (is_play_reply r)) same played

sent_front : {old new : CoreState} {who : ℕ} {wires : WireAccounts} (call : Call) (reply : Reply) → MakesChanges old → Accepts old new who call reply
    → SentWithUpTo reply wires → SentFront old new wires
sent_front (call.Swap text every change) reply makes accepts some = absurd (false≢true (plays_too reply _ (accepts.answer makes.0 makes.1) some.plays))
sent_front call.Look reply makes accepts some = absurd (false≢true (plays_too reply _ (accepts.answer makes.0 makes.1) some.plays))
sent_front (call.Tick to) reply makes accepts some = play_front accepts refl some
sent_front call.Finish reply makes accepts some = play_front accepts refl some

is_answered : {old new : CoreState} {who : ℕ} {call : Call} {reply : Reply} → Accepts old new who call reply
    → AnswersOr old who call new.history (reply_line (frontier new.history) reply)
is_answered {old} {new} {who} {call} {reply} accepts =
    inl (AnswersCall.accepted reply (record {
      allowed = accepts.allowed;
      gained = accepts.gained;
      answer = accepts.answer;
      packets = accepts.packets;
      messages = accepts.messages;
      tempo = refl;
    }) refl)

pub reply_so_far : (old new : CoreState) (who : ℕ) (call : Call) (reply : Reply) (result : Result (List ℕ) Stop) (wires : WireAccounts)
    → MakesChanges old → Accepts old new who call reply → IfOk result (λ text. text ≡ reply_line (frontier new.history) reply)
    → OnOk result (SentWith reply wires) → IfErr result (λ stop. BrokeReply reply stop wires) → KeepsWires wires
    → RepliedSoFar (AnswersOr old who call) old new result wires
reply_so_far old new who call reply (Ok text) wires makes accepts is sent broke counts = record {
  tempo = accepts.tempo;
  answer = subst (λ (line : List ℕ). AnswersOr old who call new.history line) (sym is) (is_answered accepts);
  sent = sent_all accepts sent;
  counts = counts;
}
reply_so_far old new who call reply (Err stop) wires makes accepts is sent broke counts = record {
  how = inr (record {
    tempo = accepts.tempo;
    reply = reply_line (frontier new.history) reply;
    answer = is_answered accepts;
    sent = elim broke.sent [ inl all ↦ inl (sent_all accepts all) | inr part ↦ inr (sent_front call reply makes accepts part) ];
  });
  cause = broke.cause;
  counts = counts;
}

-- why a call was not accepted
abbrev IsWhy : CoreState → Call → Refusal → Type 0
IsWhy old call refusal = (refusal_of old.history call ≡ Some refusal) ⊎ (refusal ≡ NoMemory)

is_refused : (old : CoreState) (who : ℕ) (call : Call) (refusal : Refusal) → IsWhy old call refusal → (refusal ≡ NoMemory → 1 ≤ who)
    → AnswersOr old who call old.history (refusal_line refusal)
is_refused old who call refusal why performs = elim why [
  | inl refused ↦ inl (AnswersCall.refused refusal refused refl refl)
  | inr none ↦ inr (performs none, refl, ap refusal_line none)
]

-- ---- an answer that leaves the core and the wires as they are
nothing_sent : (core : CoreState) (osc : Option (List (List ℕ))) (osc_faults : ℕ) (midi : Option (List (List ℕ))) (midi_faults : ℕ)
    → SentAll core core (still_both osc osc_faults midi midi_faults)
nothing_sent core osc osc_faults midi midi_faults = record {
  packets = [];
  messages = [];
  grows = record {
    osc = λ packets sends. subst (λ (all : List (List ℕ)). HasOsc core.tempo core.history all) (sym (append-nil packets)) sends;
    midi = λ messages sends. subst (λ (all : List (List ℕ)). HasMidi core.history all) (sym (append-nil messages)) sends;
  };
  gained_packets = gained_nothing osc;
  gained_messages = gained_nothing midi;
}

-- wires that tell and count so, on which no call was made
module _ {W : Type 0} (told : W → Option (List (List ℕ))) (faults : W → ℕ) (held : Wires W) where
  abbrev pub unused : WireAccounts
  unused = still_both (told held.osc.now) (faults held.osc.now) (told held.midi.now) (faults held.midi.now)

  keeps_unused : KeepsWires unused
  keeps_unused = record { osc_count = omega arith; midi_count = omega arith }

  pub replied_alone : (Answer : Answering) (core : CoreState) (reply : List ℕ) → Answer core.history reply
      → Replied Answer core core reply unused
  replied_alone Answer core reply answer = record {
    tempo = refl;
    answer = answer;
    sent = nothing_sent core (told held.osc.now) (faults held.osc.now) (told held.midi.now) (faults held.midi.now);
    counts = keeps_unused;
  }

  -- memory ran out, and nothing was done
  unreplied_alone : (Answer : Answering) (core : CoreState) (stop : Stop) → stop ≡ Memory → Unreplied Answer core core stop unused
  unreplied_alone Answer core stop memory = subst (λ (s : Stop). Unreplied Answer core core s unused) (sym memory) (record {
    how = inl (record { same = refl; packets = gained_nothing (told held.osc.now); messages = gained_nothing (told held.midi.now); memory = refl });
    cause = tt;
    counts = keeps_unused;
  })

  -- by the one outcome of its line
  refused_here : (old : CoreState) (who : ℕ) (call : Call) (refusal : Refusal) (result : Result (List ℕ) Stop) → IsWhy old call refusal
      → IfOk result (λ text. text ≡ refusal_line refusal) → OnOk result (refusal ≡ NoMemory → 1 ≤ who) → IfErr result (λ stop. stop ≡ Memory)
      → RepliedSoFar (AnswersOr old who call) old old result unused
  refused_here old who call refusal (Ok text) why is performs memory =
      replied_alone (AnswersOr old who call) old text
      (subst (λ (line : List ℕ). AnswersOr old who call old.history line) (sym is) (is_refused old who call refusal why performs))
  refused_here old who call refusal (Err stop) why is performs memory = unreplied_alone (AnswersOr old who call) old stop memory

  pub refusal_so_far : (old new : CoreState) (who : ℕ) (call : Call) (refusal : Refusal) (result : Result (List ℕ) Stop) → IsWhy old call refusal
      → new ≡ old → IfOk result (λ text. text ≡ refusal_line refusal) → OnOk result (refusal ≡ NoMemory → 1 ≤ who) → IfErr result (λ stop. stop ≡ Memory)
      → RepliedSoFar (AnswersOr old who call) old new result unused
  refusal_so_far old new who call refusal result why same is performs memory =
      subst (λ (core : CoreState). RepliedSoFar (AnswersOr old who call) old core result unused) (sym same)
      (refused_here old who call refusal result why is performs memory)

  -- a performer's text that makes no call
  unmade_replied : (core : CoreState) (who : ℕ) (text reply : List ℕ) (why : Unmade) → IsUnmade text why → reply ≡ unmade_line why
      → Replied (AnswersOf core (performers who text)) core core reply unused
  unmade_replied core who text reply unmade.Nothing is line =
      replied_alone (AnswersOf core (performers who text)) core reply (AnswersText.unread (inl (is, line)) refl)
  unmade_replied core who text reply (unmade.Refused why) is line =
      replied_alone (AnswersOf core (performers who text)) core reply (AnswersText.unread (inr (why, is, line)) refl)
  unmade_replied core who text reply unmade.NoMemory is line =
      replied_alone (AnswersOf core (performers who text)) core reply (AnswersText.no_memory refl line)

  pub unmade_so_far : (core : CoreState) (who : ℕ) (text : List ℕ) (why : Unmade) (result : Result (List ℕ) Stop) → IsUnmade text why
      → IfOk result (λ line. line ≡ unmade_line why) → IfErr result (λ stop. stop ≡ Memory)
      → RepliedSoFar (AnswersOf core (performers who text)) core core result unused
  unmade_so_far core who text why (Ok reply) is line memory = unmade_replied core who text reply why is line
  unmade_so_far core who text why (Err stop) is line memory = unreplied_alone (AnswersOf core (performers who text)) core stop memory

-- ---- a line that makes a call
-- what is not among all entries is not among those of one caller
none_of : {A : Type 0} (test keep : A → Bool) (xs : List A) → list_any test xs ≡ false → list_any test (filter keep xs) ≡ false
none_of test keep [] none = refl
none_of {A} test keep (x ∷ xs) none = by (keep x) (none_of test keep xs parts.1)
  where
    parts : (test x ≡ false) × (list_any test xs ≡ false)
    parts = or_parts (test x) (list_any test xs) none

    by : (b : Bool) → list_any test (filter keep xs) ≡ false → list_any test (cond b (x ∷ filter keep xs) (filter keep xs)) ≡ false
    by true rest = or_from (test x) (list_any test (filter keep xs)) parts.0 rest
    by false rest = rest

going_on : (who : ℕ) (entries : List Entry) → is_finished entries ≡ false → is_finished (entries_of who entries) ≡ false
going_on who entries going = none_of (λ (e : Entry). is_finish_deed e.deed) (λ (e : Entry). e.who == who) entries going

pub may_play : (entries : List Entry) → is_finished entries ≡ false → MayPlay (entries_of 0 entries) 0
may_play entries going = record { ticker = refl; going = going_on 0 entries going }

text_of_call : (old : CoreState) (who : ℕ) (text : List ℕ) (call : Call) → AsksFor text call → (history : List Entry) (reply : List ℕ)
    → AnswersOr old who call history reply → AnswersOf old (performers who text) history reply
text_of_call old who text call asks history reply answer = elim answer [
  | inl answers ↦ AnswersText.called call asks answers
  | inr none ↦ AnswersText.no_memory none.1 none.2
]

-- a call with the number 0
play_of_call : (old : CoreState) (call : Call) (history : List Entry) (reply : List ℕ) → AnswersOr old 0 call history reply
    → AnswersCall old.tempo old.history 0 call history reply
play_of_call old call history reply answer = elim answer [ inl answers ↦ answers | inr none ↦ absurd (omega (arith, none.0)) ]

-- ---- an answer that is one of another kind too
so_far_as : (One Other : Answering) → ((history : List Entry) (reply : List ℕ) → One history reply → Other history reply) → (old new : CoreState)
    (result : Result (List ℕ) Stop) (wires : WireAccounts) → RepliedSoFar One old new result wires → RepliedSoFar Other old new result wires
so_far_as One Other is old new (Ok reply) wires replied =
    record { tempo = replied.tempo; answer = is new.history reply replied.answer; sent = replied.sent; counts = replied.counts }
so_far_as One Other is old new (Err stop) wires unreplied = record {
  how = elim unreplied.how [
    | inl rests ↦ inl rests
    | inr lacks ↦
        inr (record { tempo = lacks.tempo; reply = lacks.reply; answer = is new.history lacks.reply lacks.answer; sent = lacks.sent })
  ];
  cause = unreplied.cause;
  counts = unreplied.counts;
}

-- a performer's call, a tick and the finish
pub text_so_far : (old new : CoreState) (who : ℕ) (text : List ℕ) (call : Call) (result : Result (List ℕ) Stop) (wires : WireAccounts)
    → AsksFor text call → RepliedSoFar (AnswersOr old who call) old new result wires
    → RepliedSoFar (AnswersOf old (performers who text)) old new result wires
text_so_far old new who text call result wires asks =
    so_far_as (AnswersOr old who call) (AnswersOf old (performers who text)) (text_of_call old who text call asks) old new result wires

pub tick_so_far : (old new : CoreState) (text : List ℕ) (to : ℕ) (result : Result (List ℕ) Stop) (wires : WireAccounts)
    → ReadsTime text (time_of to) → RepliedSoFar (AnswersOr old 0 (call.Tick to)) old new result wires
    → RepliedSoFar (AnswersOf old (tick text)) old new result wires
tick_so_far old new text to result wires reads =
    so_far_as (AnswersOr old 0 (call.Tick to)) (AnswersOf old (tick text))
    (λ history reply answer. AnswersTick.called to reads (play_of_call old (call.Tick to) history reply answer)) old new result wires

pub finish_so_far : (old new : CoreState) (result : Result (List ℕ) Stop) (wires : WireAccounts)
    → RepliedSoFar (AnswersOr old 0 call.Finish) old new result wires → RepliedSoFar (AnswersOf old finish) old new result wires
finish_so_far old new result wires =
    so_far_as (AnswersOr old 0 call.Finish) (AnswersOf old finish) (play_of_call old call.Finish) old new result wires

-- the outcome for a line is that for its class
pub class_so_far : (old new : CoreState) (line : List ℕ) (class : LineClass) (result : Result (List ℕ) Stop) (wires : WireAccounts)
    → class ≡ class_of line → RepliedSoFar (AnswersOf old class) old new result wires → RepliedSoFar (AnswersAs old line) old new result wires
class_so_far old new line class result wires is = subst (λ (c : LineClass). RepliedSoFar (AnswersOf old c) old new result wires) is

-- ---- once the reply is put, or where there is none
keeps_out : {out : Account ℕ} {wires : WireAccounts} → out.faults_before ≤ out.faults_after → KeepsWires wires → Keeps out wires
keeps_out kept counts = record { out_count = kept; osc_count = counts.osc_count; midi_count = counts.midi_count }

cause_of_out : (stop : Stop) (out : Account ℕ) (wires : WireAccounts) → HasOutCause stop out → StopHasCause stop out wires
cause_of_out Memory out wires cause = tt
cause_of_out Fault out wires cause = inl cause
cause_of_out Input out wires cause = cause

cause_of_wires : (stop : Stop) (out : Account ℕ) (wires : WireAccounts) → HasWireCause stop wires → StopHasCause stop out wires
cause_of_wires Memory out wires cause = tt
cause_of_wires Fault out wires cause = inr cause
cause_of_wires Input out wires cause = cause

pub unreplied_so_far : (Answer : Answering) (old new : CoreState) (stop : Stop) (told : Option (List ℕ)) (faults : ℕ)
    (wires : WireAccounts) → Unreplied Answer old new stop wires → Broke Answer old new stop (still told faults) wires
unreplied_so_far Answer old new stop told faults wires unreplied = record {
  how = elim unreplied.how [
    | inl rests ↦
        inl (record {
          same = rests.same;
          put = gained_nothing told;
          packets = rests.packets;
          messages = rests.messages;
          memory = rests.memory;
        })
    | inr lacks ↦
        inr (record {
          tempo = lacks.tempo;
          reply = lacks.reply;
          answer = lacks.answer;
          put = record { front = []; missing = lacks.reply; parts = refl; gained = gained_nothing told; memory = λ e. refl };
          sent = elim lacks.sent [ inl all ↦ inl all | inr part ↦ inr (refl, part) ];
        })
  ];
  cause = cause_of_wires stop (still told faults) wires unreplied.cause;
  counts = keeps_out (omega arith) unreplied.counts;
}

-- memory ran out before the reply was a text
pub unput_so_far : (Answer : Answering) (old new : CoreState) (reply : List ℕ) (told : Option (List ℕ)) (faults : ℕ) (wires : WireAccounts)
    → Replied Answer old new reply wires → Broke Answer old new Memory (still told faults) wires
unput_so_far Answer old new reply told faults wires replied =
    unreplied_so_far Answer old new Memory told faults wires (record {
      how = inr (record { tempo = replied.tempo; reply = reply; answer = replied.answer; sent = inl replied.sent });
      cause = tt;
      counts = replied.counts;
    })

pub put_so_far : {T : Type 0} (Answer : Answering) (old new : CoreState) (reply : List ℕ) (result : Result T Stop) (out : Account ℕ)
    (wires : WireAccounts) → Replied Answer old new reply wires → OnOk result (GainedExactly out.told_before out.told_after reply)
    → IfErr result (λ stop. BrokeText reply stop out) → out.faults_before ≤ out.faults_after → AnsweredSoFar Answer old new result out wires
put_so_far Answer old new reply (Ok value) out wires replied put broke kept = record {
  tempo = replied.tempo;
  reply = reply;
  answer = replied.answer;
  put = put;
  sent = replied.sent;
  counts = keeps_out kept replied.counts;
}
put_so_far Answer old new reply (Err stop) out wires replied put broke kept = record {
  how = inr (record { tempo = replied.tempo; reply = reply; answer = replied.answer; put = broke.put; sent = inl replied.sent });
  cause = cause_of_out stop out wires broke.cause;
  counts = keeps_out kept replied.counts;
}
