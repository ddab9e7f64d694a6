-- Lines that are performed one after another, from the start of a run on.
--     performs_none, progress_none     nothing was read, and nothing done
--     goes_osc, sends_on               what is sent, where the core goes on
--     keeps_on                         no count fell in either of two calls
--     performs_more, progress_line     one line more was answered
use Rattle.std.proofs.Common.{◌≡◌, ℕ, false, List, [], ◌∷◌, ◌++◌, Option, refl, ap, sym, subst, ◌∙◌, arith}
use Rattle.tdl_io.proofs.Told.{gained_nothing}
use Rattle.tdl_lines.specs.Reading.{Reading, HasRead, fresh}
use Rattle.tdl_tempo.specs.Tempo.{Pace}
use Rattle.tdl_score.specs.declared.histories.Entry.{Entry}
use Rattle.tdl_score.specs.History.{is_finished}
use Rattle.tdl_score.specs.Wires.{osc}
use Rattle.tdl_core.specs.Replies.{CoreState, core_of}
use Rattle.tdl_answer.specs.Account.{Account, WireAccounts}
use Rattle.tdl_app.specs.Plays.{AnswersLine, PlaysLine}
use Rattle.tdl_answer.specs.Sent.{SendsBoth}
use Rattle.tdl_app.specs.inside.OneLine.{Answered, AnswersAs, GoesOnBy, Keeps, SentAll}
use Rattle.tdl_app.specs.inside.Progress.{Performs, Progress}
use Rattle.tdl_answer.proofs.DeviceCalls.{MeetBoth, Meets, over, over_both, still, still_both, gained_on}
use Rattle.tdl_answer.proofs.GoneLines.{goes_more, joined_more}
use Rattle.tdl_answer.proofs.WireSends.{GoesOn, sends_more, sends_none}
use Rattle.tdl_answer.proofs.TakenLines.{ReadsLine, took_line, took_none}

-- ---- from the start on
pub performs_none : (tempo : Pace) (core : CoreState) (held : Option (List ℕ)) (faults : ℕ) (to_osc : Option (List (List ℕ))) (osc_faults : ℕ)
    (to_midi : Option (List (List ℕ))) (midi_faults : ℕ) → core ≡ core_of tempo []
    → Performs tempo [] core (still held faults) (still_both to_osc osc_faults to_midi midi_faults)
performs_none tempo core held faults to_osc osc_faults to_midi midi_faults start =
    let P : CoreState → Type 0 = λ c. Performs tempo [] c (still held faults) (still_both to_osc osc_faults to_midi midi_faults) in
    subst P (sym start) (record {
      at_tempo = refl;
      replies = [];
      plays = refl;
      put = gained_nothing held;
      sends = sends_none tempo to_osc osc_faults to_midi midi_faults;
      counts = record { out_count = omega arith; osc_count = omega arith; midi_count = omega arith };
    })

pub progress_none : (tempo : Pace) (core : CoreState) (reading : Reading) (left : Option (List ℕ)) (source_faults : ℕ) (held : Option (List ℕ)) (faults : ℕ)
    (to_osc : Option (List (List ℕ))) (osc_faults : ℕ) (to_midi : Option (List (List ℕ))) (midi_faults : ℕ) → core ≡ core_of tempo [] → reading ≡ fresh
    → HasRead reading [] []
    → Progress tempo reading core (still left source_faults) (still held faults) (still_both to_osc osc_faults to_midi midi_faults)
progress_none tempo core reading left source_faults held faults to_osc osc_faults to_midi midi_faults start new read = record {
  took = took_none reading left source_faults new read;
  performs = performs_none tempo core held faults to_osc osc_faults to_midi midi_faults start;
  going = ap (λ (c : CoreState). is_finished c.history) start;
}

-- ---- one line more
pub goes_osc : {tempo : Pace} {old new : CoreState} {packets messages : List (List ℕ)} → old.tempo ≡ tempo → GoesOnBy old new packets messages
    → GoesOn (osc tempo) old.history new.history packets
goes_osc {tempo} {old} {new} {packets} {messages} at grows =
    subst (λ (t : Pace). GoesOn (osc t) old.history new.history packets) at grows.osc

pub sends_on : {tempo : Pace} {old new : CoreState} {wires wires' : WireAccounts} → MeetBoth wires wires' → old.tempo ≡ tempo
    → SendsBoth tempo old.history wires
    → SentAll old new wires' → SendsBoth tempo new.history (over_both wires wires')
sends_on both at before sent = record {
  packets = sends_more both.osc (goes_osc at sent.grows) before.packets sent.gained_packets;
  messages = sends_more both.midi sent.grows.midi before.messages sent.gained_messages;
}

pub answer_at : (tempo : Pace) (old : CoreState) (line : List ℕ) (history : List Entry) (reply : List ℕ) → old.tempo ≡ tempo → AnswersAs old line history reply
    → AnswersLine tempo old.history line history reply
answer_at tempo old line history reply at answer = subst (λ (t : Pace). AnswersLine t old.history line history reply) at answer

pub keeps_on : {out out' : Account ℕ} {wires wires' : WireAccounts} → Meets out out' → MeetBoth wires wires' → Keeps out wires → Keeps out' wires'
    → Keeps (over out out') (over_both wires wires')
keeps_on outs both first second = record {
  out_count = omega (arith, outs.faults, first.out_count, second.out_count);
  osc_count = omega (arith, both.osc.faults, first.osc_count, second.osc_count);
  midi_count = omega (arith, both.midi.faults, first.midi_count, second.midi_count);
}

pub performs_more : (tempo : Pace) (lines : List (List ℕ)) (line : List ℕ) (old new : CoreState) (out out' : Account ℕ) (wires wires' : WireAccounts)
    → Meets out out' → MeetBoth wires wires' → Performs tempo lines old out wires → is_finished old.history ≡ false
    → Answered (AnswersAs old line) old new out' wires'
    → Performs tempo (lines ++ line ∷ []) new (over out out') (over_both wires wires')
performs_more tempo lines line old new out out' wires wires' outs both before going answered = record {
  at_tempo = answered.tempo ∙ before.at_tempo;
  replies = before.replies ++ answered.reply ∷ [];
  plays = goes_more (PlaysLine tempo) [] old.history new.history lines before.replies line answered.reply before.plays
      (going, answer_at tempo old line new.history answered.reply before.at_tempo answered.answer);
  put = rw (joined_more before.replies answered.reply) (gained_on outs before.put answered.put);
  sends = sends_on both before.at_tempo before.sends answered.sent;
  counts = keeps_on outs both before.counts answered.counts;
}

-- it was answered, and is not the finish
pub progress_line : {tempo : Pace} {old_reading reading : Reading} {old new : CoreState} {input input' out out' : Account ℕ} {wires wires' : WireAccounts}
    (line : List ℕ) → Meets input input' → Meets out out' → MeetBoth wires wires'
    → (progress : Progress tempo old_reading old input out wires) → ReadsLine old_reading reading progress.took.taken progress.took.given input' line
    → Answered (AnswersAs old line) old new out' wires' → is_finished new.history ≡ false
    → Progress tempo reading new (over input input') (over out out') (over_both wires wires')
progress_line {tempo} {old_reading} {reading} {old} {new} {input} {input'} {out} {out'} {wires}
    {wires'} line inputs outs both progress reads answered going = record {
      took = took_line inputs progress.took reads;
      performs = performs_more tempo progress.took.given line old new out out' wires wires' outs both progress.performs progress.going answered;
      going = going;
    }
