-- What a run does, by what the words ask for.
--     HasPorts    there are as many ports as they ask for
--     IsAlone     they do not ask to serve
--     IsUnread    memory ran out before the words were read: nothing was done
--     RanAs       where they ask for this, a mode a line
--     Ran         by all that words may ask for, and where they ask for nothing
use Rattle.std.specs.Prelude.{◌≡◌, ◌⊎◌, List, [], length, ℕ}
use Rattle.tdl_tempo.specs.Tempo.{Pace}
use Rattle.tdl_words.specs.Modes.{Asked, AskDrill, AskPlay, AskQuery, AskServe, Asks, ports_of}
use Rattle.tdl_app.specs.declared.devices.Outside.{Outside}
use Rattle.tdl_app.specs.declared.outcomes.Outcome.{Outcome}
use Rattle.tdl_app.specs.Accounts.{Accounts, Telling, accounts}
use Rattle.tdl_app.specs.Untouched.{OthersStay, UnusedStay}
use Rattle.tdl_app.specs.QueryRun.{Refuses, Queried}
use Rattle.tdl_app.specs.Played.{Played}
use Rattle.tdl_app.specs.Drilled.{Drilled}
use Rattle.tdl_app.specs.Served.{Served}

-- ---- the conditions of a run
abbrev pub HasPorts : {S K W C : Type 0} → List (List ℕ) → Outside S K W C → Type 0
HasPorts words outside = (asked : Asked) → Asks words asked → length outside.ports.items ≡ ports_of asked

abbrev pub IsAlone : List (List ℕ) → Type 0
IsAlone words = (pace : Pace) (performers cycles : ℕ) → Asks words (AskServe pace performers cycles) → ⊥

-- ---- what it does
pub record IsUnread {S K W C : Type 0} (before after : Outside S K W C) (outcome : Outcome) : Type 0 where
  pub memory : outcome.status ≡ 3
  pub nothing : (outcome.history.entries ≡ []) × (outcome.ends ≡ [])
  pub same : after ≡ before

abbrev pub RanAs : {S K W C : Type 0} → Asked → Accounts → Outside S K W C → Outside S K W C → Outcome → Type 0
RanAs (AskQuery query) told before after outcome = Queried query outcome.status outcome.history.entries outcome.ends told.out × OthersStay before after
RanAs (AskPlay pace) told before after outcome =
    (Played pace outcome.status outcome.history.entries outcome.ends told.input told.out told.log told.wires × UnusedStay before after)
    ⊎ IsUnread before after outcome
RanAs (AskServe pace performers cycles) told before after outcome =
    Served pace cycles outcome.status outcome.history.entries outcome.ends told before after ⊎ IsUnread before after outcome
RanAs (AskDrill start lines) told before after outcome =
    (Drilled start lines outcome.status outcome.history.entries outcome.ends told.out told.log told.wires
    × (after.input ≡ before.input) × UnusedStay before after)
    ⊎ IsUnread before after outcome

pub record Ran {S K W C : Type 0} (tells : Telling S K W C) (words : List (List ℕ)) (before after : Outside S K W C) (outcome : Outcome) : Type 0 where
  pub as_asked : (asked : Asked) → Asks words asked → RanAs asked (accounts tells before after) before after outcome
  -- the words are not in the word grammar
  pub refused : ((asked : Asked) → Asks words asked → ⊥)
      → Refuses outcome.status outcome.history.entries outcome.ends (accounts tells before after).out × OthersStay before after
