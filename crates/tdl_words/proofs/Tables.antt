-- The built rules of the modes' commands.
use Rattle.std.proofs.Common.{◌≡◌, ℕ, Bool, true, false, refl, List, [], ◌∷◌, map, Some, None, true≢false, ap, codes}
use Rattle.std.proofs.lemmas.Slice.Eq.{bytes_eq-Decides}
use Rattle.std.specs.Prelude.{if◌then◌else◌}
use Rattle.std.specs.Str.{bytes_eq}
use Rattle.clap.specs.Simple.{built}
use Rattle.clap.specs.Walk.{Rule, Text, arg_by_id, arg_by_long, arg_by_short}
use Rattle.clap.specs.Faults.{is_simple_and_free}
use Rattle.tdl_words.specs.Words.{is_listed}
use Rattle.tdl_words.specs.Modes.{play_options, serve_options}
use Rattle.tdl_words.specs.inside.Commands.{drill_app, play_app, query_app, serve_app}
use Rattle.tdl_words.proofs.Parses.{AllOptional, leaf}
use Rattle.tdl_words.proofs.Walks.{HasOptions, HasSeats, option_rule, seat_rule}

-- ---- options alone

by_long : (names : List Text) (name : Text) → arg_by_long (map option_rule names) name ≡ (if is_listed names name then Some (option_rule name) else None)
by_long [] name = refl
by_long (n ∷ ns) name = go (bytes_eq n name) refl (by_long ns name)
  where
    go : (t : Bool) → bytes_eq n name ≡ t → arg_by_long (map option_rule ns) name ≡ (if is_listed ns name then Some (option_rule name) else None)
        → arg_by_long (map option_rule (n ∷ ns)) name ≡ (if is_listed (n ∷ ns) name then Some (option_rule name) else None)
    go true e next = rw e (ap (λ x. Some (option_rule x)) ((bytes_eq-Decides n name).0 e))
    go false e next = rw e next

by_id : (names : List Text) (name : Text) → is_listed names name ≡ true → arg_by_id (map option_rule names) name ≡ Some (option_rule name)
by_id [] name known = absurd (true≢false (cc))
by_id (n ∷ ns) name known = go (bytes_eq n name) refl (by_id ns name)
  where
    go : (t : Bool) → bytes_eq n name ≡ t → (is_listed ns name ≡ true → arg_by_id (map option_rule ns) name ≡ Some (option_rule name))
        → arg_by_id (map option_rule (n ∷ ns)) name ≡ Some (option_rule name)
    go true e next = rw e (ap (λ x. Some (option_rule x)) ((bytes_eq-Decides n name).0 e))
    go false e next = rw e (next (rw e at known))

by_short : (names : List Text) (char : ℕ) → arg_by_short (map option_rule names) char ≡ None
by_short [] char = refl
by_short (n ∷ ns) char = by_short ns char

pub has_options : (names : List Text) → HasOptions (map option_rule names) names
has_options names = record { by_long = by_long names; by_id = by_id names; by_short = by_short names }

-- ---- `play`

abbrev pub play_rules : List Rule
play_rules = map option_rule play_options

pub play_is_simple : is_simple_and_free play_app ≡ true
play_is_simple = refl

pub play_built : built play_app ≡ leaf (codes "play") play_rules
play_built = refl

pub play_optional : AllOptional play_rules
play_optional = (refl, refl, (refl, refl, tt))

pub play_seats : HasSeats play_rules 1 []
play_seats = refl

-- ---- `serve`

abbrev pub serve_rules : List Rule
serve_rules = map option_rule serve_options

pub serve_is_simple : is_simple_and_free serve_app ≡ true
serve_is_simple = refl

pub serve_built : built serve_app ≡ leaf (codes "serve") serve_rules
serve_built = refl

pub serve_optional : AllOptional serve_rules
serve_optional = (refl, refl, (refl, refl, (refl, refl, (refl, refl, tt))))

pub serve_seats : HasSeats serve_rules 1 []
serve_seats = refl

-- ---- `query`

abbrev pub query_ids : List Text
query_ids = codes "pattern" ∷ codes "from" ∷ codes "to" ∷ []

abbrev pub query_rules : List Rule
query_rules = seat_rule (codes "pattern") 1 ∷ seat_rule (codes "from") 2 ∷ seat_rule (codes "to") 3 ∷ []

pub query_is_simple : is_simple_and_free query_app ≡ true
query_is_simple = refl

pub query_built : built query_app ≡ leaf (codes "query") query_rules
query_built = refl

pub query_optional : AllOptional query_rules
query_optional = (refl, refl, (refl, refl, (refl, refl, tt)))

pub query_seats : HasSeats query_rules 1 query_ids
query_seats = (refl, refl, (refl, refl, (refl, refl, refl)))

pub query_options : HasOptions query_rules []
query_options = record { by_long = λ name. refl; by_id = λ name known. absurd (true≢false (cc)); by_short = λ char. refl }

-- ---- `drill`

abbrev pub drill_ids : List Text
drill_ids = codes "start" ∷ codes "lines" ∷ []

abbrev pub drill_rules : List Rule
drill_rules = seat_rule (codes "start") 1 ∷ seat_rule (codes "lines") 2 ∷ []

pub drill_is_simple : is_simple_and_free drill_app ≡ true
drill_is_simple = refl

pub drill_built : built drill_app ≡ leaf (codes "drill") drill_rules
drill_built = refl

pub drill_optional : AllOptional drill_rules
drill_optional = (refl, refl, (refl, refl, tt))

pub drill_seats : HasSeats drill_rules 1 drill_ids
drill_seats = (refl, refl, (refl, refl, refl))

pub drill_options : HasOptions drill_rules []
drill_options = record { by_long = λ name. refl; by_id = λ name known. absurd (true≢false (cc)); by_short = λ char. refl }
