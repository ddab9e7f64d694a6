-- What the texts that were found for a mode's arguments tell of the words.
--     only           the text, if there is one
--     NamesTempo     the texts for cycles a second and for the origin name this tempo
--     NamesServe     the texts for the options of `serve` name so much
--     NamesDrill     the two texts of `drill` name so much
--     TellsPlay      the words ask to play exactly at the tempo that these texts name
--     TellsServe     the words ask to serve exactly what these texts name
--     TellsQuery     the words ask exactly for the query of these three texts
--     TellsDrill     the words ask exactly for the drill that these two texts name
use Rattle.std.specs.Prelude.{◌≡◌, ◌↔◌, ℕ, List, [], ◌∷◌, Option, Some, None}
use Rattle.tdl_tempo.specs.Tempo.{Pace}
use Rattle.tdl_words.specs.Words.{IsGivenAs, IsGivenOnce}
use Rattle.tdl_words.specs.Modes.{AsksDrill, AsksPlay, AsksQuery, AsksServe, IsCpsText, IsCyclesText, IsLinesText, IsOriginText, IsPerformersText, IsStartText, Query, usual_pace}

abbrev pub only : Option (List ℕ) → List (List ℕ)
only None = []
only (Some text) = text ∷ []

pub record NamesTempo (cps origin : Option (List ℕ)) (pace : Pace) : Type 0 where
  pub cps_is : IsGivenAs IsCpsText usual_pace.cps (only cps) pace.cps
  pub origin_is : IsGivenAs IsOriginText usual_pace.origin (only origin) pace.origin

abbrev pub TellsPlay : List (List ℕ) → Option (List ℕ) → Option (List ℕ) → Type 0
TellsPlay words cps origin = (pace : Pace) → AsksPlay words pace ↔ NamesTempo cps origin pace

pub record NamesServe (performers cycles cps origin : Option (List ℕ)) (pace : Pace) (k n : ℕ) : Type 0 where
  pub performers_are : IsGivenOnce IsPerformersText (only performers) k
  pub cycles_are : IsGivenOnce IsCyclesText (only cycles) n
  pub tempo_is : NamesTempo cps origin pace

abbrev pub TellsServe : List (List ℕ) → Option (List ℕ) → Option (List ℕ) → Option (List ℕ) → Option (List ℕ) → Type 0
TellsServe words performers cycles cps origin =
    (pace : Pace) (k n : ℕ) → AsksServe words pace k n ↔ NamesServe performers cycles cps origin pace k n

pub record IsQueryOf (pattern from to : Option (List ℕ)) (query : Query) : Type 0 where
  pub pattern_is : pattern ≡ Some query.pattern
  pub from_is : from ≡ Some query.from
  pub to_is : to ≡ Some query.to

abbrev pub TellsQuery : List (List ℕ) → Option (List ℕ) → Option (List ℕ) → Option (List ℕ) → Type 0
TellsQuery words pattern from to = (query : Query) → AsksQuery words query ↔ IsQueryOf pattern from to query

pub record NamesDrill (start lines : Option (List ℕ)) (number count : ℕ) : Type 0 where
  pub start_is : IsGivenOnce IsStartText (only start) number
  pub lines_are : IsGivenOnce IsLinesText (only lines) count

abbrev pub TellsDrill : List (List ℕ) → Option (List ℕ) → Option (List ℕ) → Type 0
TellsDrill words start lines = (number count : ℕ) → AsksDrill words number count ↔ NamesDrill start lines number count
