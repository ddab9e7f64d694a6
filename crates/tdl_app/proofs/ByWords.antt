-- Runs, by what was read of the words.
--     ran_play, ran_query, ran_drill    the words were read
--     ran_refused                       they are not in the grammar
--     ran_without_memory                there was no memory to read them
--     not_a_script                      words that ask for something else ask for no script
--     not_query, not_drill, not_serve   the things that may be asked for are different
--     alone_for                         words that ask for something else do not ask to serve
--     has_ports, is_alone               what the words ask for was told
use Rattle.std.proofs.Common.{◌≡◌, ◌≢◌, ◌≤◌, ℕ, refl, List, [], inl, inr, ap, subst, sym, ◌∙◌, arith}
use Rattle.tdl_tempo.specs.Tempo.{Pace}
use Rattle.tdl_score.specs.declared.histories.Entry.{Entry}
use Rattle.tdl_log.specs.declared.ends.Ending.{Ending}
use Rattle.tdl_words.specs.Modes.{Asked, AskDrill, AskPlay, AskQuery, AskServe, Asks, Query, max_cycles, max_performers, ports_of}
use Rattle.tdl_app.specs.declared.devices.Outside.{Outside}
use Rattle.tdl_app.specs.declared.outcomes.Outcome.{Outcome}
use Rattle.tdl_app.specs.Accounts.{Accounts, Telling, accounts}
use Rattle.tdl_answer.specs.Account.{Account}
use Rattle.tdl_app.specs.Answer.{usage_line}
use Rattle.tdl_app.specs.Drilled.{Drilled}
use Rattle.tdl_app.specs.Played.{Played}
use Rattle.tdl_app.specs.QueryRun.{Puts, Queried, Refuses}
use Rattle.tdl_app.specs.Ran.{IsAlone, Ran, RanAs}
use Rattle.tdl_app.specs.Untouched.{OthersStay, UnusedStay}

-- words ask for one thing at most
abbrev pub AskOnce : Type 0
AskOnce = (words : List (List ℕ)) (a b : Asked) → Asks words a → Asks words b → a ≡ b

-- what is left that accepted nothing
abbrev pub IsEmptyOutcome : ℕ → Outcome → Type 0
IsEmptyOutcome status outcome = (outcome.status ≡ status) × (outcome.history.entries ≡ []) × (outcome.ends ≡ [])

refuses_from_put : (status : ℕ) (history : List Entry) (ends : List Ending) (out : Account ℕ) → Puts usage_line 1 status out → history ≡ [] → ends ≡ []
    → Refuses status history ends out
refuses_from_put status history ends out puts no_history no_ends = record {
  usage = λ some. puts;
  memory = λ three.
      let other : status ≢ 4 = λ four. omega arith in
      let one : status ≡ 1 = (puts.done other).0 in
      absurd (omega arith);
  nothing = (no_history, no_ends);
}

queried_without_memory : (query : Query) (status : ℕ) (history : List Entry) (ends : List Ending) (out : Account ℕ) → status ≡ 3
    → out.told_after ≡ out.told_before → out.faults_after ≡ out.faults_before → history ≡ [] → ends ≡ [] → Queried query status history ends out
queried_without_memory query status history ends out three told counted no_history no_ends = record {
  done = λ some other. absurd (some three);
  memory = λ _. inl (told, counted);
  fault = λ four. absurd (omega arith);
  kept = omega arith;
  nothing = (no_history, no_ends);
}

module _ {S K W C : Type 0} (tells : Telling S K W C) (words : List (List ℕ)) (before : Outside S K W C) where
  ran_as : (after : Outside S K W C) (outcome : Outcome) (asked : Asked) → Asks words asked → AskOnce
      → RanAs asked (accounts tells before after) before after outcome → Ran tells words before after outcome
  ran_as after outcome asked asks one run = record {
    as_asked = λ b asks_too. subst (λ a. RanAs a (accounts tells before after) before after outcome) (one words asked b asks asks_too) run;
    refused = λ none. absurd (none asked asks);
  }

  pub ran_play : (after : Outside S K W C) (outcome : Outcome) (pace : Pace) → Asks words (AskPlay pace) → AskOnce
      → (let told : Accounts = accounts tells before after in
      Played pace outcome.status outcome.history.entries outcome.ends told.input told.out told.log told.wires)
      → UnusedStay before after → Ran tells words before after outcome
  ran_play after outcome pace asks one played stay = ran_as after outcome (AskPlay pace) asks one (inl (played, stay))

  pub ran_drill : (after : Outside S K W C) (outcome : Outcome) (start lines : ℕ) → Asks words (AskDrill start lines) → AskOnce
      → (let told : Accounts = accounts tells before after in
      Drilled start lines outcome.status outcome.history.entries outcome.ends told.out told.log told.wires)
      → after.input ≡ before.input → UnusedStay before after → Ran tells words before after outcome
  ran_drill after outcome start lines asks one drilled input stay = ran_as after outcome (AskDrill start lines) asks one (inl (drilled, input, stay))

  pub ran_query : (after : Outside S K W C) (outcome : Outcome) (query : Query) (status : ℕ) → Asks words (AskQuery query) → AskOnce
      → Queried query status [] [] (accounts tells before after).out → IsEmptyOutcome status outcome → OthersStay before after
      → Ran tells words before after outcome
  ran_query after outcome query status asks one queried empty stay =
      let out : Account ℕ = (accounts tells before after).out in
      let at_status = subst (λ (s : ℕ). Queried query s [] [] out) (sym empty.0) queried in
      let at_history = subst (λ (h : List Entry). Queried query outcome.status h [] out) (sym empty.1) at_status in
      let at_ends = subst (λ (e : List Ending). Queried query outcome.status outcome.history.entries e out) (sym empty.2) at_history in
      ran_as after outcome (AskQuery query) asks one (at_ends, stay)

  pub ran_refused : (after : Outside S K W C) (outcome : Outcome) (status : ℕ) → ((asked : Asked) → Asks words asked → ⊥)
      → Puts usage_line 1 status (accounts tells before after).out → IsEmptyOutcome status outcome → OthersStay before after
      → Ran tells words before after outcome
  ran_refused after outcome status none puts empty stay =
      let out : Account ℕ = (accounts tells before after).out in
      let at_status = subst (λ (s : ℕ). Puts usage_line 1 s out) (sym empty.0) puts in
      record {
        as_asked = λ asked asks. absurd (none asked asks);
        refused = λ _. (refuses_from_put outcome.status outcome.history.entries outcome.ends out at_status empty.1 empty.2, stay);
      }

  unused : UnusedStay before before
  unused = record { clock = refl; ports = refl }

  others : OthersStay before before
  others = record { input = refl; log = refl; osc = refl; midi = refl; unused = unused }

  pub ran_without_memory : (outcome : Outcome) → IsEmptyOutcome 3 outcome → Ran tells words before before outcome
  ran_without_memory outcome empty = record {
    as_asked = by_asked;
    refused = λ _. (
      record {
        usage = λ some. absurd (some empty.0);
        memory = λ _. (refl, refl);
        nothing = (empty.1, empty.2);
      },
      others,
    );
  }
    where
      by_asked : (asked : Asked) → Asks words asked → RanAs asked (accounts tells before before) before before outcome
      by_asked (AskQuery query) asks = (
        queried_without_memory query outcome.status outcome.history.entries outcome.ends (accounts tells before before).out empty.0 refl refl empty.1 empty.2,
        others,
      )
      by_asked (AskPlay pace) asks = inr (record { memory = empty.0; nothing = (empty.1, empty.2); same = refl })
      by_asked (AskServe pace performers cycles) asks = inr (record { memory = empty.0; nothing = (empty.1, empty.2); same = refl })
      by_asked (AskDrill start lines) asks = inr (record { memory = empty.0; nothing = (empty.1, empty.2); same = refl })

-- ---- words that ask for no script
pub not_a_script : {A : Type 0} (words : List (List ℕ)) (asked : Asked) → Asks words asked → AskOnce → ((pace : Pace) → asked ≡ AskPlay pace → ⊥)
    → (pace : Pace) → Asks words (AskPlay pace) → A
not_a_script {A} words asked asks one other pace plays = absurd (other pace (one words asked (AskPlay pace) asks plays))

pub not_query : (query : Query) (pace : Pace) → AskQuery query ≡ AskPlay pace → ⊥
not_query query pace same = cc

pub not_drill : (start lines : ℕ) (pace : Pace) → AskDrill start lines ≡ AskPlay pace → ⊥
not_drill start lines pace same = cc

pub not_serve : (tempo : Pace) (performers cycles : ℕ) (pace : Pace) → AskServe tempo performers cycles ≡ AskPlay pace → ⊥
not_serve tempo performers cycles pace same = cc

-- ---- the conditions of a run
-- words that ask to serve do so in bounds
abbrev pub AreBounded : Type 0
AreBounded = (words : List (List ℕ)) (pace : Pace) (performers cycles : ℕ) → Asks words (AskServe pace performers cycles)
    → (1 ≤ performers) × (performers ≤ max_performers) × (1 ≤ cycles) × (cycles ≤ max_cycles)

-- the words ask for so many ports
abbrev pub TellsPorts : List (List ℕ) → ℕ → Type 0
TellsPorts words count = (asked : Asked) × (Asks words asked × (count ≡ ports_of asked))

pub has_ports : (words : List (List ℕ)) {told count : ℕ} → AskOnce → TellsPorts words told → count ≡ told
    → (asked : Asked) → Asks words asked → count ≡ ports_of asked
has_ports words one tells same = λ asked asks. same ∙ tells.1.1 ∙ ap ports_of (one words tells.0 asked tells.1.0 asks)

pub is_alone : (words : List (List ℕ)) {told : ℕ} → AskOnce → AreBounded → TellsPorts words told → told ≡ 0 → IsAlone words
is_alone words {told} one bounded tells none = λ pace performers cycles asks.
    let bounds = bounded words pace performers cycles asks in
    let same : told ≡ performers = has_ports words one tells refl (AskServe pace performers cycles) asks in
    omega (arith, none, same, bounds.0)
