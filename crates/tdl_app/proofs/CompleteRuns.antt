-- What a run did that has status 0.
--     printed        a query
--     played_out     a script
--     served_out     performers who are served
--     drilled_out    a drill
use Rattle.std.proofs.Common.{◌≡◌, ℕ, zero, suc, ◌+◌, ◌⊎◌, inl, inr, Bool, true, false, IsTrue, List, [], ◌∷◌, ◌++◌}
use Rattle.std.proofs.Common.{refl, sym, ap, subst, ◌∙◌, append-nil, arith}
use Rattle.std.specs.Prelude.{◌==◌, if◌then◌else◌}
use Rattle.std.proofs.lemmas.Bool.{false≢true, ne_eqb, or_right}
use Rattle.std.proofs.lemmas.Option.{none-some}
use Rattle.tdl_io.specs.Told.{GainedExactly}
use Rattle.tdl_lines.specs.Lines.{lines_of}
use Rattle.tdl_tempo.specs.Tempo.{Pace}
use Rattle.tdl_score.specs.declared.histories.Entry.{Entry}
use Rattle.tdl_score.specs.History.{is_finished}
use Rattle.tdl_score.proofs.Entries.{is_finished-append}
use Rattle.tdl_core.specs.declared.calls.Call.TheVariants as call
use Rattle.tdl_core.specs.Replies.{entry_of}
use Rattle.tdl_log.specs.declared.ends.Ending.{Ending}
use Rattle.tdl_log.specs.declared.ends.PortEnd.{PortEnd}
use Rattle.tdl_log.specs.LogText.{log_text}
use Rattle.tdl_words.specs.Modes.{AskDrill, AskPlay, AskQuery, AskServe, Asks, Query, usual_pace}
use Rattle.tdl_drill.specs.Drill.{drill_lines, lines_from, next_number, place_by}
use Rattle.tdl_answer.specs.Account.{Account, WireAccounts}
use Rattle.tdl_answer.specs.Answers.{AnswersCall}
use Rattle.tdl_answer.specs.EndLine.{IsEndLine}
use Rattle.tdl_answer.specs.Ends.{Logs, PortsEnd}
use Rattle.tdl_answer.specs.Goes.{Goes}
use Rattle.tdl_answer.specs.Sent.{Sends, SendsBoth}
use Rattle.tdl_answer.specs.Taken.{Taken}
use Rattle.tdl_beats.specs.Beaten.{is_broken}
use Rattle.tdl_beats.specs.declared.runs.BeatEnd.{BeatEnd}
use Rattle.tdl_beats.specs.declared.runs.BeatEnd.TheVariants as beat
use Rattle.tdl_perform.specs.Port.{ServesPort}
use Rattle.tdl_serve.specs.PortAccounts.{PortAccount}
use Rattle.tdl_app.specs.declared.devices.Outside.{Outside}
use Rattle.tdl_app.specs.declared.outcomes.Outcome.{Outcome}
use Rattle.tdl_app.specs.Accounts.{Accounts, Telling, accounts}
use Rattle.tdl_app.specs.Answer.{QueryAnswer}
use Rattle.tdl_app.specs.Answered.{AllPerformed, AnsweredLines, HasFinished}
use Rattle.tdl_app.specs.Causes.{HasPlayingStatus}
use Rattle.tdl_app.specs.Complete.{IsDrilledOut, IsPlayedOut, IsPrinted, IsServed, IsServedOut}
use Rattle.tdl_app.specs.Cuts.{IsPlayed}
use Rattle.tdl_app.specs.Drilled.{Drilled, EndsDrill, PlayedThrough}
use Rattle.tdl_app.specs.Played.{Performed, Played}
use Rattle.tdl_app.specs.Plays.{PlaysLine}
use Rattle.tdl_app.specs.Printed.{PrintsNext}
use Rattle.tdl_app.specs.QueryRun.{Queried}
use Rattle.tdl_app.specs.Ran.{Ran}
use Rattle.tdl_app.specs.Served.{EndsServed, Served, ServedThrough}
use Rattle.tdl_app.proofs.PortCauses.{ends_by_cause, unfailed_end}

-- ---- the log and the wires
never_done : (playing : ℕ) → (if playing == 0 then 7 else playing) ≡ 0 → ⊥
never_done zero e = omega (arith, e)
never_done (suc n) e =
    let other : (suc n == 0) ≡ false = ne_eqb (suc n) 0 (λ same. omega (arith, same)) in
    let none : suc n ≡ 0 = subst (λ (b : Bool). (if b then 7 else suc n) ≡ 0) other e in
    omega (arith, none)

-- playing called for 0, and the log is whole
logs_done : {text : List ℕ} {playing status : ℕ} {log : Account ℕ} → status ≡ 0 → Logs text playing status log
    → (playing ≡ 0) × GainedExactly log.told_before log.told_after text
logs_done done (Logs.whole is gained) = (sym is ∙ done, gained)
logs_done {text} {playing} {status} {log} done (Logs.part is rose gained) = absurd (never_done playing (sym is ∙ done))

sends_whole : {tempo : Pace} {history : List Entry} {wires : WireAccounts} (broke : Bool) → broke ≡ false → Sends broke tempo history wires
    → SendsBoth tempo history wires
sends_whole broke whole (inl sends) = sends
sends_whole broke whole (inr some) = absurd (false≢true (sym whole ∙ some.0))

-- ---- a query
answer_printed : (query : Query) (text : List ℕ) (out : Account ℕ) → QueryAnswer query 0 text → GainedExactly out.told_before out.told_after text
    → IsPrinted query out
answer_printed query text out (QueryAnswer.refused why refuses is line) gained = absurd (omega (arith, is))
answer_printed query text out (QueryAnswer.events tree arc asks fits is print) gained = record {
  pattern = tree;
  arc = arc;
  asks = asks;
  fits = fits;
  print = subst (λ (t : List ℕ). GainedExactly out.told_before out.told_after t) print gained;
}

query_printed : (query : Query) (status : ℕ) (history : List Entry) (ends : List Ending) (out : Account ℕ) → Queried query status history ends out
    → status ≡ 0 → IsPrinted query out
query_printed query status history ends out run done =
    let answer = run.done (λ three. omega (arith, done, three)) (λ four. omega (arith, done, four)) in
    answer_printed query answer.0 out (subst (λ (s : ℕ). QueryAnswer query s answer.0) done answer.1) answer.2

-- ---- a script
module _ {tempo : Pace} {history : List Entry} {input : Account ℕ} {wires : WireAccounts} (script : Taken input)
    (answers : AnsweredLines tempo (lines_of script.ended script.bytes) history) where
  over_by : {out : Account ℕ} → HasPlayingStatus 0 script answers out wires → (IsTrue script.ended × AllPerformed answers) ⊎ HasFinished answers
  over_by (HasPlayingStatus.done is ended all) = inl (ended, all)
  over_by (HasPlayingStatus.finished is has) = inr has
  over_by (HasPlayingStatus.memory is) = absurd (omega (arith, is))
  over_by (HasPlayingStatus.fault is failed) = absurd (omega (arith, is))
  over_by (HasPlayingStatus.lost is rose unended counted all) = absurd (omega (arith, is))
  over_by (HasPlayingStatus.spent is past all) = absurd (omega (arith, is))

  end_by : (text : List ℕ) → PrintsNext 0 script answers text wires → IsEndLine tempo history text
  end_by text (PrintsNext.whole is line) = line
  end_by text (PrintsNext.nothing is none sends end) = elim is [ inl three ↦ absurd (omega (arith, three)) | inr five ↦ absurd (omega (arith, five)) ]
  end_by text (PrintsNext.part_of_reply fault begun) = absurd (false≢true fault)
  end_by text (PrintsNext.part_of_end is over sends end) = absurd (omega (arith, is))

script_played : (tempo : Pace) (status : ℕ) (history : List Entry) (ends : List Ending) (told : Accounts)
    → Played tempo status history ends told.input told.out told.log told.wires → status ≡ 0 → IsPlayedOut tempo history ends told
script_played tempo status history ends told run done =
    let logs = logs_done done run.logged in
    let performed : Performed tempo 0 history ends told.input told.out told.wires =
    subst (λ (s : ℕ). Performed tempo s history ends told.input told.out told.wires) logs.0 run.performed in
    let script = performed.script in
    let answers = performed.answers in
    record {
      script = script;
      answers = answers;
      over = over_by script answers performed.cause;
      whole = record {
        wires = sends_whole false refl performed.packets;
        log = logs.1;
        line = performed.printed.text;
        is_end = end_by script answers performed.printed.text performed.printed.next;
        out = performed.printed.gained;
      };
    }

-- ---- performers who are served
module _ {P : Type 0} {One Other : ℕ → P → PortEnd → Type 0} (on : (number : ℕ) (port : P) (end : PortEnd) → One number port end → Other number port end) where
  ports_so : (number : ℕ) (ports : List P) (ends : List Ending) → PortsEnd One number ports ends → PortsEnd Other number ports ends
  ports_so number [] [] h = tt
  ports_so number [] (ending ∷ endings) h = h
  ports_so number (port ∷ ports) [] h = h
  ports_so number (port ∷ ports) (ending ∷ endings) h = (h.0, on number port ending.end h.1, ports_so (number + 1) ports endings h.2)

port_served : (tempo : Pace) (history : List Entry) (number : ℕ) (port : PortAccount) (end : PortEnd)
    → ServesPort tempo number history port.source port.sink end → IsServed tempo number history port end
port_served tempo history number port end served = record {
  served = served;
  ended = ends_by_cause served;
  unfailed = unfailed_end served.ended;
}

-- what the output gained, and how the beats ended
ended_by : {tempo : Pace} {history : List Entry} {out : Account ℕ} (end : BeatEnd) → EndsServed tempo history end 0 out
    → (end ≡ beat.Done) × ((line : List ℕ) × IsEndLine tempo history line × GainedExactly out.told_before out.told_after line)
ended_by end (EndsServed.done done is line ends gained) = (done, (line, ends, gained))
ended_by end (EndsServed.out_failed done is rose front ends gained) = absurd (omega (arith, is))
ended_by end (EndsServed.no_line done is gained) = absurd (omega (arith, is))
ended_by end (EndsServed.wire_failed broke is gained) = absurd (omega (arith, is))
ended_by end (EndsServed.no_tick lacks is gained) = absurd (omega (arith, is))

served_through : (tempo : Pace) (cycles : ℕ) (history : List Entry) (ends : List Ending) (told : Accounts) → ServedThrough tempo cycles 0 history ends told
    → GainedExactly told.log.told_before told.log.told_after (log_text (record { tempo = tempo; history = history; ends = ends }))
    → IsServedOut tempo cycles history ends told
served_through tempo cycles history ends told run log =
    let ended = ended_by run.end run.printed in
    record {
      ticks = run.beaten.done ended.0;
      finished = run.beaten.finished ended.0;
      ports = ports_so (port_served tempo history) 1 told.ports ends run.ports;
      whole = record {
        wires = sends_whole (is_broken run.end) (ap is_broken ended.0) run.beaten.sends;
        log = log;
        line = ended.1.0;
        is_end = ended.1.1;
        out = ended.1.2;
      };
    }

performers_served : {S K W C : Type 0} (before after : Outside S K W C) (tempo : Pace) (cycles status : ℕ) (history : List Entry) (ends : List Ending)
    (told : Accounts) → Served tempo cycles status history ends told before after → status ≡ 0 → IsServedOut tempo cycles history ends told
performers_served before after tempo cycles status history ends told run done =
    let logs = logs_done done run.logged in
    elim run.performed [
      | inl through ↦ served_through tempo cycles history ends told (subst (λ (s : ℕ). ServedThrough tempo cycles s history ends told) logs.0 through) logs.1
      | inr unstarted ↦ absurd (omega (arith, logs.0, unstarted.memory))
    ]

-- ---- a drill
call_finishes : (tempo : Pace) (old new : List Entry) (reply : List ℕ) → AnswersCall tempo old 0 call.Finish new reply → is_finished new ≡ true
call_finishes tempo old new reply (AnswersCall.refused refusal why same is) = absurd (none-some refusal why)
call_finishes tempo old new reply (AnswersCall.accepted answer accepts is) =
    ap is_finished accepts.gained ∙ is_finished-append old (entry_of old 0 call.Finish) ∙ or_right (is_finished old) true refl

-- the finish is played last
drill_finishes : (tempo : Pace) (number place count : ℕ) (old new : List Entry) (replies : List (List ℕ))
    → Goes (PlaysLine tempo) old (lines_from number place count) new replies → is_finished new ≡ true
unfolding lines_from
drill_finishes tempo number place zero old new [] goes = absurd goes
drill_finishes tempo number place zero old new (reply ∷ []) goes =
    ap is_finished goes.2 ∙ call_finishes tempo old goes.0 reply goes.1.1
drill_finishes tempo number place zero old new (reply ∷ other ∷ replies) goes = absurd goes.2
drill_finishes tempo number place (suc count) old new [] goes = absurd goes
drill_finishes tempo number place (suc count) old new (reply ∷ replies) goes =
    drill_finishes tempo (next_number number) (place_by (next_number number) place) count goes.0 new replies goes.2

-- each line was played, and what the output gained
through_by : {tempo : Pace} {history : List Entry} {rest : List (List ℕ)} {out : Account ℕ} {wires : WireAccounts} (end : PortEnd)
    → EndsDrill tempo 0 history rest end out wires
    → (rest ≡ []) × ((line : List ℕ) × IsEndLine tempo history line × GainedExactly out.told_before out.told_after line)
through_by end (EndsDrill.done is port all line ends gained) = (all, (line, ends, gained))
through_by end (EndsDrill.out_failed is port all sends rose front ends gained) = absurd (omega (arith, is))
through_by end (EndsDrill.no_line is port all sends gained) = absurd (omega (arith, is))
through_by end (EndsDrill.wire_failed is port rose gained) = absurd (omega (arith, is))
through_by end (EndsDrill.no_memory is port gained) = absurd (omega (arith, is))

drill_played : (start count status : ℕ) (history : List Entry) (ends : List Ending) (told : Accounts)
    → Drilled start count status history ends told.out told.log told.wires → status ≡ 0 → IsDrilledOut start count history ends told
drill_played start count status history ends told run done =
    let logs = logs_done done run.logged in
    let script = drill_lines start count in
    let performed : PlayedThrough usual_pace script 0 history ends told.out told.wires =
    subst (λ (s : ℕ). PlayedThrough usual_pace script s history ends told.out told.wires) logs.0 run.performed in
    let ended = through_by performed.end performed.ended in
    let all : performed.lines ≡ script =
    sym (append-nil performed.lines) ∙ ap (λ (rest : List (List ℕ)). performed.lines ++ rest) (sym ended.0) ∙ sym performed.parts in
    let played : IsPlayed usual_pace script history = subst (λ (lines : List (List ℕ)). IsPlayed usual_pace lines history) all performed.answers in
    record {
      played = played;
      finished = drill_finishes usual_pace start 0 count [] history played.replies played.plays;
      whole = record {
        wires = sends_whole false refl performed.packets;
        log = logs.1;
        line = ended.1.0;
        is_end = ended.1.1;
        out = ended.1.2;
      };
    }

-- ---- by what the words ask for
module _ {S K W C : Type 0} (tells : Telling S K W C) (words : List (List ℕ)) (before after : Outside S K W C) (outcome : Outcome) where
  pub printed : (query : Query) → Ran tells words before after outcome → Asks words (AskQuery query) → outcome.status ≡ 0
      → IsPrinted query (accounts tells before after).out
  printed query ran asks done =
      query_printed query outcome.status outcome.history.entries outcome.ends (accounts tells before after).out (ran.as_asked (AskQuery query) asks).0 done

  pub played_out : (pace : Pace) → Ran tells words before after outcome → Asks words (AskPlay pace) → outcome.status ≡ 0
      → IsPlayedOut pace outcome.history.entries outcome.ends (accounts tells before after)
  played_out pace ran asks done = elim (ran.as_asked (AskPlay pace) asks) [
    | inl run ↦ script_played pace outcome.status outcome.history.entries outcome.ends (accounts tells before after) run.0 done
    | inr unread ↦ absurd (omega (arith, done, unread.memory))
  ]

  pub served_out : (pace : Pace) (performers cycles : ℕ) → Ran tells words before after outcome → Asks words (AskServe pace performers cycles)
      → outcome.status ≡ 0 → IsServedOut pace cycles outcome.history.entries outcome.ends (accounts tells before after)
  served_out pace performers cycles ran asks done = elim (ran.as_asked (AskServe pace performers cycles) asks) [
    | inl run ↦ performers_served before after pace cycles outcome.status outcome.history.entries outcome.ends (accounts tells before after) run done
    | inr unread ↦ absurd (omega (arith, done, unread.memory))
  ]

  pub drilled_out : (start lines : ℕ) → Ran tells words before after outcome → Asks words (AskDrill start lines) → outcome.status ≡ 0
      → IsDrilledOut start lines outcome.history.entries outcome.ends (accounts tells before after)
  drilled_out start lines ran asks done = elim (ran.as_asked (AskDrill start lines) asks) [
    | inl run ↦ drill_played start lines outcome.status outcome.history.entries outcome.ends (accounts tells before after) run.0 done
    | inr unread ↦ absurd (omega (arith, done, unread.memory))
  ]
