-- What the parser's answer tells of the words of each mode.
use Rattle.std.proofs.Common.{◌≡◌, ℕ, List, [], ◌∷◌, map, drop, Option, subst, codes}
use Rattle.std.specs.Prelude.{String, string_bytes}
use Rattle.std.proofs.lemmas.Str.{IsUtf8-string_bytes}
use Rattle.clap.specs.Words.{App, Text, fault_of, first_value, found_of, matches_of, rows_of}
use Rattle.clap.specs.declared.parser.matches.ArgMatches.{ArgMatches}
use Rattle.clap.proofs.WalkLemmas.{first_value-rows}
use Rattle.tdl_tempo.specs.Tempo.{Pace}
use Rattle.tdl_words.specs.Modes.{AsksDrill, AsksPlay, AsksQuery, AsksServe, Query, cps_option, cycles_option, origin_option, performers_option}
use Rattle.tdl_words.specs.inside.Commands.{drill_app, play_app, query_app, serve_app}
use Rattle.tdl_words.specs.inside.Tells.{TellsDrill, TellsPlay, TellsQuery, TellsServe}
use Rattle.tdl_words.proofs.ModeLaws.{drill_refused, drill_told, play_refused, play_told, query_refused, query_told, serve_refused, serve_told}
use Rattle.tdl_words.proofs.Parses.{outcome_bad, outcome_ok}
use Rattle.tdl_words.proofs.Walks.{All_utf8}

all_utf8 : {Z : Type 0} (words : List (String Z)) → All_utf8 (map string_bytes words)
all_utf8 [] = tt
all_utf8 (word ∷ rest) = (IsUtf8-string_bytes word, all_utf8 rest)

after_first : {Z : Type 0} (words : List (String Z)) → All_utf8 (drop 1 (map string_bytes words))
after_first [] = tt
after_first (word ∷ rest) = all_utf8 rest

module _ {Z : Type 0} (words : List (String Z)) where
  abbrev texts : List Text
  texts = map string_bytes words

  pub play_tells : (app : App) (m : ArgMatches) (cps origin : Option Text) → app ≡ play_app → fault_of app texts ≡ []
      → rows_of (found_of m) ≡ matches_of app texts
      → cps ≡ first_value (found_of m) cps_option → origin ≡ first_value (found_of m) origin_option → TellsPlay (drop 1 texts) cps origin
  play_tells app m cps origin is none rows cps_is origin_is =
      let f = found_of m in
      let found = outcome_ok play_app texts (rows_of f) (subst (λ a. fault_of a texts ≡ []) is none) (subst (λ a. rows_of f ≡ matches_of a texts) is rows) in
      rw (cps_is, origin_is, first_value-rows f cps_option, first_value-rows f origin_option) (play_told texts (rows_of f) (after_first words) found)

  pub play_bad : (app : App) → app ≡ play_app → (fault_of app texts ≡ [] → ⊥) → (pace : Pace) → AsksPlay (drop 1 texts) pace → ⊥
  play_bad app is some = play_refused texts (after_first words) (outcome_bad play_app texts (subst (λ a. fault_of a texts ≡ [] → ⊥) is some))

  pub serve_tells : (app : App) (m : ArgMatches) (performers cycles cps origin : Option Text) → app ≡ serve_app → fault_of app texts ≡ []
      → rows_of (found_of m) ≡ matches_of app texts
      → performers ≡ first_value (found_of m) performers_option → cycles ≡ first_value (found_of m) cycles_option
      → cps ≡ first_value (found_of m) cps_option → origin ≡ first_value (found_of m) origin_option
      → TellsServe (drop 1 texts) performers cycles cps origin
  serve_tells app m performers cycles cps origin is none rows performers_are cycles_are cps_is origin_is =
      let f = found_of m in
      let found = outcome_ok serve_app texts (rows_of f) (subst (λ a. fault_of a texts ≡ []) is none) (subst (λ a. rows_of f ≡ matches_of a texts) is rows) in
      rw (performers_are, cycles_are, cps_is, origin_is)
      (rw (first_value-rows f performers_option, first_value-rows f cycles_option, first_value-rows f cps_option, first_value-rows f origin_option)
      (serve_told texts (rows_of f) (after_first words) found))

  pub serve_bad : (app : App) → app ≡ serve_app → (fault_of app texts ≡ [] → ⊥)
      → (pace : Pace) (performers cycles : ℕ) → AsksServe (drop 1 texts) pace performers cycles → ⊥
  serve_bad app is some = serve_refused texts (after_first words) (outcome_bad serve_app texts (subst (λ a. fault_of a texts ≡ [] → ⊥) is some))

  pub query_tells : (app : App) (m : ArgMatches) (pattern from to : Option Text) → app ≡ query_app → fault_of app texts ≡ []
      → rows_of (found_of m) ≡ matches_of app texts
      → pattern ≡ first_value (found_of m) (codes "pattern") → from ≡ first_value (found_of m) (codes "from") → to ≡ first_value (found_of m) (codes "to")
      → TellsQuery (drop 1 texts) pattern from to
  query_tells app m pattern from to is none rows pattern_is from_is to_is =
      let f = found_of m in
      let found = outcome_ok query_app texts (rows_of f) (subst (λ a. fault_of a texts ≡ []) is none) (subst (λ a. rows_of f ≡ matches_of a texts) is rows) in
      rw (pattern_is, from_is, to_is, first_value-rows f (codes "pattern"), first_value-rows f (codes "from"), first_value-rows f (codes "to"))
      (query_told texts (rows_of f) (after_first words) found)

  pub query_bad : (app : App) → app ≡ query_app → (fault_of app texts ≡ [] → ⊥) → (query : Query) → AsksQuery (drop 1 texts) query → ⊥
  query_bad app is some = query_refused texts (after_first words) (outcome_bad query_app texts (subst (λ a. fault_of a texts ≡ [] → ⊥) is some))

  pub drill_tells : (app : App) (m : ArgMatches) (start lines : Option Text) → app ≡ drill_app → fault_of app texts ≡ []
      → rows_of (found_of m) ≡ matches_of app texts
      → start ≡ first_value (found_of m) (codes "start") → lines ≡ first_value (found_of m) (codes "lines")
      → TellsDrill (drop 1 texts) start lines
  drill_tells app m start lines is none rows start_is lines_are =
      let f = found_of m in
      let found = outcome_ok drill_app texts (rows_of f) (subst (λ a. fault_of a texts ≡ []) is none) (subst (λ a. rows_of f ≡ matches_of a texts) is rows) in
      rw (start_is, lines_are, first_value-rows f (codes "start"), first_value-rows f (codes "lines"))
      (drill_told texts (rows_of f) (after_first words) found)

  pub drill_bad : (app : App) → app ≡ drill_app → (fault_of app texts ≡ [] → ⊥) → (start lines : ℕ) → AsksDrill (drop 1 texts) start lines → ⊥
  drill_bad app is some = drill_refused texts (after_first words) (outcome_bad drill_app texts (subst (λ a. fault_of a texts ≡ [] → ⊥) is some))
