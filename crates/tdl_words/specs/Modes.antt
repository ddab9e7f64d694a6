-- What the words after the program's name can ask for: a mode, which is the first word, and what it takes.
--     Query           a pattern and the two ends of an arc, as written
--     Asked           a query; to play a script at a tempo; to serve so many performers for so many cycles at a tempo; a drill
--     IsCpsText       the text writes a number of cycles a second that a tempo may have
--     IsWholeText     the text writes a whole number in these bounds
--     IsOriginText    the text writes a second since 1900-01-01
--     usual_pace      the tempo where the words do not say otherwise
--     SayPace         the texts that options are given say this tempo
--     SayServe        they say so much of `serve`
--     Asks            the words ask for this
--     ports_of        how many ports that takes
--     cps_of          its cycles a second: those of its tempo, or the usual ones
use Rattle.std.specs.Prelude.{◌≡◌, ◌≤◌, ℕ, pos, List, [], ◌∷◌, Some, None, codes}
use Rattle.std.specs.Str.Parse.{digits_value}
use Rattle.tdl_fraction.specs.Rational.{Rational, frac}
use Rattle.tdl_fraction.specs.Range.{InRange}
use Rattle.tdl_fraction.specs.Reading.{IsShortNumeral, Reads}
use Rattle.tdl_tempo.specs.Tempo.{IsCps, Pace}
use Rattle.tdl_words.specs.Words.{AreOptions, Piece, IsGivenAs, IsGivenOnce, pieces, positional}

pub record Query : Type 0 where
  pub pattern : List ℕ
  pub from : List ℕ
  pub to : List ℕ

pub data Asked : Type 0 where
  AskQuery : Query → Asked
  AskPlay : Pace → Asked
  -- the tempo, how many performers there are, and how many cycles are played
  AskServe : Pace → ℕ → ℕ → Asked
  -- the number from which its lines are made, and how many
  AskDrill : ℕ → ℕ → Asked

pub record IsCpsText (text : List ℕ) (cps : Rational) : Type 0 where
  pub reads : Reads text cps
  pub in_range : InRange cps
  pub allowed : IsCps cps

-- one to ten digits, of a number from `least` to `most`
pub record IsWholeText (least most : ℕ) (text : List ℕ) (number : ℕ) : Type 0 where
  pub digits : IsShortNumeral 10 text
  pub value : number ≡ digits_value 10 text
  pub from : least ≤ number
  pub to : number ≤ most

abbrev pub IsOriginText : List ℕ → ℕ → Type 0
IsOriginText = IsWholeText 0 4294967295

-- 9/16 cycles a second, from the first second of 1970 on
abbrev pub usual_pace : Pace
usual_pace = record { cps = frac (pos 9) 16; origin = 2208988800 }

abbrev pub max_performers : ℕ
max_performers = 8

abbrev pub max_cycles : ℕ
max_cycles = 65536

abbrev pub IsPerformersText : List ℕ → ℕ → Type 0
IsPerformersText = IsWholeText 1 max_performers

abbrev pub IsCyclesText : List ℕ → ℕ → Type 0
IsCyclesText = IsWholeText 1 max_cycles

abbrev pub max_start : ℕ
max_start = 2147483647

abbrev pub max_lines : ℕ
max_lines = 16384

abbrev pub IsStartText : List ℕ → ℕ → Type 0
IsStartText = IsWholeText 0 max_start

abbrev pub IsLinesText : List ℕ → ℕ → Type 0
IsLinesText = IsWholeText 1 max_lines

abbrev pub cps_option : List ℕ
cps_option = codes "cps"

abbrev pub origin_option : List ℕ
origin_option = codes "origin"

abbrev pub performers_option : List ℕ
performers_option = codes "performers"

abbrev pub cycles_option : List ℕ
cycles_option = codes "cycles"

abbrev pub play_options : List (List ℕ)
play_options = cps_option ∷ origin_option ∷ []

abbrev pub serve_options : List (List ℕ)
serve_options = performers_option ∷ cycles_option ∷ play_options

-- three positional words
pub record AsksQuery (words : List (List ℕ)) (query : Query) : Type 0 where
  pub found : List Piece
  pub come_to : pieces [] None words ≡ Some found
  pub are_three : positional found ≡ query.pattern ∷ query.from ∷ query.to ∷ []

-- two positional words
pub record AsksDrill (words : List (List ℕ)) (start lines : ℕ) : Type 0 where
  pub found : List Piece
  pub come_to : pieces [] None words ≡ Some found
  pub start_text : List ℕ
  pub lines_text : List ℕ
  pub are_two : positional found ≡ start_text ∷ lines_text ∷ []
  pub start_is : IsStartText start_text start
  pub lines_are : IsLinesText lines_text lines

-- each of the two options at most once
pub record SayPace (texts : List ℕ → List (List ℕ)) (pace : Pace) : Type 0 where
  pub cps : IsGivenAs IsCpsText usual_pace.cps (texts cps_option) pace.cps
  pub origin : IsGivenAs IsOriginText usual_pace.origin (texts origin_option) pace.origin

-- both of the other options
pub record SayServe (texts : List ℕ → List (List ℕ)) (pace : Pace) (performers cycles : ℕ) : Type 0 where
  pub performers_are : IsGivenOnce IsPerformersText (texts performers_option) performers
  pub cycles_are : IsGivenOnce IsCyclesText (texts cycles_option) cycles
  pub tempo_is : SayPace texts pace

abbrev pub AsksPlay : List (List ℕ) → Pace → Type 0
AsksPlay words pace = AreOptions play_options (λ texts. SayPace texts pace) words

abbrev pub AsksServe : List (List ℕ) → Pace → ℕ → ℕ → Type 0
AsksServe words pace performers cycles = AreOptions serve_options (λ texts. SayServe texts pace performers cycles) words

abbrev pub Asks : List (List ℕ) → Asked → Type 0
Asks [] asked = ⊥
Asks (mode ∷ rest) (AskQuery query) = (mode ≡ codes "query") × AsksQuery rest query
Asks (mode ∷ rest) (AskPlay pace) = (mode ≡ codes "play") × AsksPlay rest pace
Asks (mode ∷ rest) (AskServe pace performers cycles) = (mode ≡ codes "serve") × AsksServe rest pace performers cycles
Asks (mode ∷ rest) (AskDrill start lines) = (mode ≡ codes "drill") × AsksDrill rest start lines

-- a performer has a port
abbrev pub ports_of : Asked → ℕ
ports_of (AskQuery query) = 0
ports_of (AskPlay pace) = 0
ports_of (AskServe pace performers cycles) = performers
ports_of (AskDrill start lines) = 0

abbrev pub cps_of : Asked → Rational
cps_of (AskQuery query) = usual_pace.cps
cps_of (AskPlay pace) = pace.cps
cps_of (AskServe pace performers cycles) = pace.cps
cps_of (AskDrill start lines) = usual_pace.cps
