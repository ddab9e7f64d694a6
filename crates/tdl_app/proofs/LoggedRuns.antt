-- Runs whose log was put, or not.
--     logs_put         what that makes of the status
--     logs_outcome     the log tells what the outcome has
--     of_outcome       what holds of what was played holds of the outcome
use Rattle.std.proofs.Common.{◌≡◌, ℕ, ◌≤◌, List, [], ◌∷◌, Result, Ok, Err, OnOk, refl, sym, subst}
use Rattle.std.specs.Prelude.{◌==◌, if◌then◌else◌, OnErr}
use Rattle.tdl_io.specs.Told.{GainedExactly, GainedPrefix}
use Rattle.tdl_io.specs.Faults.{HasCause}
use Rattle.tdl_tempo.specs.Tempo.{Pace}
use Rattle.tdl_score.specs.declared.histories.Entry.{Entry}
use Rattle.tdl_log.specs.declared.ends.Ending.{Ending}
use Rattle.tdl_log.specs.LogText.{log_text}
use Rattle.tdl_answer.specs.Account.{Account}
use Rattle.tdl_answer.specs.Ends.{Logs}

pub logs_put : {A E : Type 0} (text : List ℕ) (playing status : ℕ) (logged : Result A E) (log : Account ℕ)
    → OnOk logged (GainedExactly log.told_before log.told_after text) → OnErr logged (GainedPrefix log.told_before log.told_after text)
    → HasCause log.faults_before log.faults_after logged
    → OnOk logged (status ≡ playing) → OnErr logged (status ≡ (if playing == 0 then 7 else playing)) → Logs text playing status log
logs_put text playing status (Ok done) log put front cause as_played failed = Logs.whole as_played put
logs_put text playing status (Err error) log put front cause as_played failed = Logs.part failed (cause.failed refl) front

-- the log of what an outcome has
pub logs_outcome : (tempo : Pace) {kept history : List Entry} {called ends : List Ending} {log : Account ℕ} (asked playing status : ℕ) → history ≡ kept
    → ends ≡ called → playing ≡ asked → Logs (log_text (record { tempo = tempo; history = kept; ends = called })) playing status log
    → Logs (log_text (record { tempo = tempo; history = history; ends = ends })) asked status log
logs_outcome tempo {kept} {history} {called} {ends} {log} asked playing status same_history same_ends calls logs =
    subst (λ (s : ℕ). Logs (log_text (record { tempo = tempo; history = history; ends = ends })) s status log) calls
    (subst (λ (h : List Entry). Logs (log_text (record { tempo = tempo; history = h; ends = ends })) playing status log) (sym same_history)
    (subst (λ (es : List Ending). Logs (log_text (record { tempo = tempo; history = kept; ends = es })) playing status log) (sym same_ends) logs))

-- what holds of a history and of how ports ended holds of those of an outcome
pub of_outcome : (P : List Entry → List Ending → Type 0) {kept history : List Entry} {called ends : List Ending} → history ≡ kept → ends ≡ called
    → P kept called → P history ends
of_outcome P {kept} {history} {called} {ends} same_history same_ends holds =
    subst (λ (h : List Entry). P h ends) (sym same_history) (subst (λ (es : List Ending). P kept es) (sym same_ends) holds)
