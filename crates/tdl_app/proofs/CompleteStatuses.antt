-- The status of a run in which no count of faults rose.
--     query_status, play_status, serve_status, drill_status    by mode
--     has_status                                               by what the words ask for
use Rattle.std.proofs.Common.{◌≡◌, ℕ, ◌⊎◌, inl, inr, List, sym, subst, ◌∙◌, arith}
use Rattle.std.proofs.lemmas.Bool.{cases_eq, false≢true}
use Rattle.tdl_lines.specs.Lines.{lines_of}
use Rattle.tdl_tempo.specs.Tempo.{Pace}
use Rattle.tdl_score.specs.declared.histories.Entry.{Entry}
use Rattle.tdl_log.specs.declared.ends.Ending.{Ending}
use Rattle.tdl_log.specs.declared.ends.PortEnd.{PortEnd}
use Rattle.tdl_words.specs.Modes.{Asked, AskDrill, AskPlay, AskQuery, AskServe, Asks, Query}
use Rattle.tdl_answer.specs.Account.{Account}
use Rattle.tdl_answer.specs.Ends.{AnyHasFailed, Logs}
use Rattle.tdl_answer.specs.Taken.{Taken}
use Rattle.tdl_beats.specs.Beaten.{Beaten}
use Rattle.tdl_beats.specs.declared.runs.BeatEnd.{BeatEnd}
use Rattle.tdl_app.specs.declared.devices.Outside.{Outside}
use Rattle.tdl_app.specs.declared.outcomes.Outcome.{Outcome}
use Rattle.tdl_app.specs.Accounts.{Accounts, Telling, accounts}
use Rattle.tdl_app.specs.Answer.{QueryAnswer}
use Rattle.tdl_app.specs.Answered.{AnsweredLines}
use Rattle.tdl_app.specs.Causes.{HasPlayingStatus}
use Rattle.tdl_app.specs.Complete.{HasStatus, IsExactly, IsRefused, NoneRose, PlaysTo, Rose}
use Rattle.tdl_app.specs.Drilled.{Drilled, EndsDrill}
use Rattle.tdl_app.specs.Played.{Played}
use Rattle.tdl_app.specs.QueryRun.{Queried}
use Rattle.tdl_app.specs.Ran.{Ran}
use Rattle.tdl_app.specs.Served.{EndsServed, Served}
use Rattle.tdl_app.proofs.RefusedQueries.{never_both}

-- where no put into the log failed, the status is that of playing
unlogged : {text : List ℕ} {playing status : ℕ} {log : Account ℕ} → ¬ (Rose log) → Logs text playing status log → status ≡ playing
unlogged none (Logs.whole is gained) = is
unlogged none (Logs.part is rose gained) = absurd (none rose)

answered_status : (query : Query) (status : ℕ) (text : List ℕ) → QueryAnswer query status text → IsExactly (IsRefused query) 2 status
answered_status query status text (QueryAnswer.refused why refuses is line) = inl ((why, refuses), is)
answered_status query status text (QueryAnswer.events tree arc asks fits is print) =
    inr ((λ refused. never_both query tree arc refused.0 asks fits refused.1), is)

module _ {told : Accounts} (none : NoneRose told) where
  none_failed : AnyHasFailed told.out told.wires → ⊥
  none_failed (inl rose) = none.out rose
  none_failed (inr (inl rose)) = none.osc rose
  none_failed (inr (inr rose)) = none.midi rose

  query_status : (query : Query) (status : ℕ) (history : List Entry) (ends : List Ending) → Queried query status history ends told.out
      → IsExactly (IsRefused query) 2 status ⊎ (status ≡ 3)
  query_status query status history ends run = elim (cases_eq status 3) [
    | inl three ↦ inr three
    | inr other ↦ (let done = run.done other (λ four. none.out (run.fault four).0) in inl (answered_status query status done.0 done.1))
  ]

  plays_to : {tempo : Pace} {history : List Entry} (status : ℕ) (script : Taken told.input)
      (answers : AnsweredLines tempo (lines_of script.ended script.bytes) history) → HasPlayingStatus status script answers told.out told.wires
      → PlaysTo tempo history told.input status ⊎ (status ≡ 3)
  plays_to status script answers (HasPlayingStatus.done is ended all) =
      inl (record {
        script = script;
        answers = answers;
        called = inr ((λ spent. omega (arith, spent.past, (script.at_end ended).counted)), is);
      })
  plays_to status script answers (HasPlayingStatus.finished is has) =
      inl (record { script = script; answers = answers; called = inr ((λ spent. false≢true (sym spent.going ∙ has.finished)), is) })
  plays_to status script answers (HasPlayingStatus.memory is) = inr is
  plays_to status script answers (HasPlayingStatus.fault is failed) = absurd (none_failed failed)
  plays_to status script answers (HasPlayingStatus.lost is rose unended counted all) = absurd (none.input rose)
  plays_to status script answers (HasPlayingStatus.spent is past all) =
      inl (record { script = script; answers = answers; called = inl (record { past = past; going = all.going }, is) })

  play_status : (tempo : Pace) (status : ℕ) (history : List Entry) (ends : List Ending)
      → Played tempo status history ends told.input told.out told.log told.wires → PlaysTo tempo history told.input status ⊎ (status ≡ 3)
  play_status tempo status history ends run =
      subst (λ (s : ℕ). PlaysTo tempo history told.input s ⊎ (s ≡ 3)) (sym (unlogged none.log run.logged))
      (plays_to run.playing run.performed.script run.performed.answers run.performed.cause)

  served_to : {tempo : Pace} {cycles : ℕ} {history : List Entry} (end : BeatEnd) (status : ℕ) → Beaten tempo cycles history told.beats told.wires end
      → EndsServed tempo history end status told.out → (status ≡ 0) ⊎ (status ≡ 3)
  served_to end status beaten (EndsServed.done done is line ends gained) = inl is
  served_to end status beaten (EndsServed.out_failed done is rose front ends gained) = absurd (none.out rose)
  served_to end status beaten (EndsServed.no_line done is gained) = inr is
  served_to end status beaten (EndsServed.wire_failed broke is gained) = elim (beaten.cause broke) [
    | inl rose ↦ absurd (none.osc rose)
    | inr rose ↦ absurd (none.midi rose)
  ]
  served_to end status beaten (EndsServed.no_tick lacks is gained) = inr is

  serve_status : {S K W C : Type 0} (before after : Outside S K W C) (tempo : Pace) (cycles status : ℕ) (history : List Entry) (ends : List Ending)
      → Served tempo cycles status history ends told before after → (status ≡ 0) ⊎ (status ≡ 3)
  serve_status before after tempo cycles status history ends run =
      subst (λ (s : ℕ). (s ≡ 0) ⊎ (s ≡ 3)) (sym (unlogged none.log run.logged)) (elim run.performed [
        | inl through ↦ served_to through.end run.playing through.beaten through.printed
        | inr unstarted ↦ inr unstarted.memory
      ])

  drilled_to : {tempo : Pace} {history : List Entry} {rest : List (List ℕ)} (end : PortEnd) (status : ℕ)
      → EndsDrill tempo status history rest end told.out told.wires → (status ≡ 0) ⊎ (status ≡ 3)
  drilled_to end status (EndsDrill.done is port all line ends gained) = inl is
  drilled_to end status (EndsDrill.out_failed is port all sends rose front ends gained) = absurd (none.out rose)
  drilled_to end status (EndsDrill.no_line is port all sends gained) = inr is
  drilled_to end status (EndsDrill.wire_failed is port rose gained) = elim rose [
    | inl osc ↦ absurd (none.osc osc)
    | inr midi ↦ absurd (none.midi midi)
  ]
  drilled_to end status (EndsDrill.no_memory is port gained) = inr is

  drill_status : (start count status : ℕ) (history : List Entry) (ends : List Ending)
      → Drilled start count status history ends told.out told.log told.wires → (status ≡ 0) ⊎ (status ≡ 3)
  drill_status start count status history ends run =
      subst (λ (s : ℕ). (s ≡ 0) ⊎ (s ≡ 3)) (sym (unlogged none.log run.logged)) (drilled_to run.performed.end run.playing run.performed.ended)

pub has_status : {S K W C : Type 0} (tells : Telling S K W C) (words : List (List ℕ)) (before after : Outside S K W C) (outcome : Outcome) (asked : Asked)
    → Ran tells words before after outcome → Asks words asked → NoneRose (accounts tells before after)
    → HasStatus asked (accounts tells before after) outcome.history.entries outcome.status
has_status tells words before after outcome (AskQuery query) ran asks none =
    query_status none query outcome.status outcome.history.entries outcome.ends (ran.as_asked (AskQuery query) asks).0
has_status tells words before after outcome (AskPlay pace) ran asks none = elim (ran.as_asked (AskPlay pace) asks) [
  | inl run ↦ play_status none pace outcome.status outcome.history.entries outcome.ends run.0
  | inr unread ↦ inr unread.memory
]
has_status tells words before after outcome (AskServe pace performers cycles) ran asks none = elim (ran.as_asked (AskServe pace performers cycles) asks) [
  | inl run ↦ serve_status none before after pace cycles outcome.status outcome.history.entries outcome.ends run
  | inr unread ↦ inr unread.memory
]
has_status tells words before after outcome (AskDrill start lines) ran asks none = elim (ran.as_asked (AskDrill start lines) asks) [
  | inl run ↦ drill_status none start lines outcome.status outcome.history.entries outcome.ends run.0
  | inr unread ↦ inr unread.memory
]
