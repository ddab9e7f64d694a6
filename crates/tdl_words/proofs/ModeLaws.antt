-- What a parse of each mode's words tells of them.
use Rattle.std.proofs.Common.{◌≡◌, ◌↔◌, ℕ, refl, List, [], ◌∷◌, map, drop, Option, Some, None, true≢false, sym, ap}
use Rattle.std.proofs.Common.{subst, ◌∙◌, inl, inr, codes}
use Rattle.std.specs.Prelude.{IfSome}
use Rattle.std.specs.Option.{option_and_then}
use Rattle.clap.specs.Walk.{Row, Text, first_of}
use Rattle.tdl_tempo.specs.Tempo.{Pace}
use Rattle.tdl_words.specs.Words.{Piece, Word, Given, pieces, positional}
use Rattle.tdl_words.specs.Modes.{AsksDrill, AsksPlay, AsksQuery, AsksServe, Query, SayPace, SayServe, cps_option, cycles_option, origin_option, performers_option}
use Rattle.tdl_words.specs.Modes.{play_options, serve_options}
use Rattle.tdl_words.specs.inside.Commands.{drill_app, play_app, query_app, serve_app}
use Rattle.tdl_words.specs.inside.Tells.{IsQueryOf, TellsDrill, TellsPlay, TellsQuery, TellsServe, only}
use Rattle.tdl_words.proofs.Given.{AllListed, HasMinus, SameOrMinus, all_listed, same_or_minus}
use Rattle.tdl_words.proofs.OptionLaws.{as_taken, minus_given, options_refused, options_told, pace_fits, serve_fits}
use Rattle.tdl_words.proofs.Parses.{outcome, outcome_is}
use Rattle.tdl_words.proofs.Rules.{row, uses}
use Rattle.tdl_words.proofs.Tables.{drill_built, drill_ids, drill_optional, drill_options, drill_rules, drill_seats}
use Rattle.tdl_words.proofs.Tables.{has_options, play_built, play_optional, play_rules, play_seats, query_built, query_ids, query_optional, query_options}
use Rattle.tdl_words.proofs.Tables.{query_rules, query_seats, serve_built, serve_optional, serve_rules, serve_seats}
use Rattle.tdl_words.proofs.Walks.{All_utf8, taken}

-- ---- `play`

play_outcome : (words : List Text) → All_utf8 (drop 1 words) → outcome play_app words ≡ option_and_then (uses [] []) (taken play_options None (drop 1 words))
play_outcome words utf8 = outcome_is play_app (codes "play") play_rules play_options [] play_built refl play_optional
    (has_options play_options) play_seats words utf8

pub play_told : (words : List Text) (rows : List Row) → All_utf8 (drop 1 words) → outcome play_app words ≡ Some rows
    → TellsPlay (drop 1 words) (first_of cps_option rows) (first_of origin_option rows)
play_told words rows utf8 e pace =
    let both = options_told play_options (drop 1 words) (λ texts. SayPace texts pace) (pace_fits pace) rows (sym (play_outcome words utf8) ∙ e) in (
      λ a. let say = both.0 a in record { cps_is = say.cps; origin_is = say.origin },
      λ n. both.1 (record { cps = n.cps_is; origin = n.origin_is }),
    )

pub play_refused : (words : List Text) → All_utf8 (drop 1 words) → outcome play_app words ≡ None → (pace : Pace) → AsksPlay (drop 1 words) pace → ⊥
play_refused words utf8 e pace =
    options_refused play_options (drop 1 words) (λ texts. SayPace texts pace) (pace_fits pace) (sym (play_outcome words utf8) ∙ e)

-- ---- `serve`

serve_outcome : (words : List Text) → All_utf8 (drop 1 words)
    → outcome serve_app words ≡ option_and_then (uses [] []) (taken serve_options None (drop 1 words))
serve_outcome words utf8 = outcome_is serve_app (codes "serve") serve_rules serve_options [] serve_built refl serve_optional
    (has_options serve_options) serve_seats words utf8

pub serve_told : (words : List Text) (rows : List Row) → All_utf8 (drop 1 words) → outcome serve_app words ≡ Some rows
    → TellsServe (drop 1 words) (first_of performers_option rows) (first_of cycles_option rows) (first_of cps_option rows) (first_of origin_option rows)
serve_told words rows utf8 e pace k n =
    let both = options_told serve_options (drop 1 words) (λ texts. SayServe texts pace k n) (serve_fits pace k n) rows (sym (serve_outcome words utf8) ∙ e) in (
      λ a. let say = both.0 a in
          record {
            performers_are = say.performers_are;
            cycles_are = say.cycles_are;
            tempo_is = record { cps_is = say.tempo_is.cps; origin_is = say.tempo_is.origin };
          },
      λ s. both.1 (record {
        performers_are = s.performers_are;
        cycles_are = s.cycles_are;
        tempo_is = record { cps = s.tempo_is.cps_is; origin = s.tempo_is.origin_is };
      }),
    )

pub serve_refused : (words : List Text) → All_utf8 (drop 1 words) → outcome serve_app words ≡ None
    → (pace : Pace) (performers cycles : ℕ) → AsksServe (drop 1 words) pace performers cycles → ⊥
serve_refused words utf8 e pace k n =
    options_refused serve_options (drop 1 words) (λ texts. SayServe texts pace k n) (serve_fits pace k n) (sym (serve_outcome words utf8) ∙ e)

-- ---- positional words alone

-- where no option is listed, the pieces are words
words_alone : (found : List Piece) → AllListed [] found → found ≡ map Word (positional found)
words_alone [] listed = refl
words_alone (Word word ∷ rest) listed = ap (λ others. Word word ∷ others) (words_alone rest listed)
words_alone (Given name text ∷ rest) listed = absurd (true≢false (sym listed.0))

-- the pieces of words whose positional ones have these rows
record ArePlaced (seats words : List Text) (rows : List Row) : Type 0 where
  found : List Piece
  come_to : pieces [] None words ≡ Some found
  placed : uses seats [] (map Word (positional found)) ≡ Some rows

words_told : (seats words : List Text) (rows : List Row) → option_and_then (uses seats []) (taken [] None words) ≡ Some rows → ArePlaced seats words rows
words_told seats words rows e = go (taken [] None words) refl (same_or_minus [] None words tt)
  where
    go : (o : Option (List Piece)) → taken [] None words ≡ o → SameOrMinus [] (pieces [] None words) (taken [] None words) → ArePlaced seats words rows
    go None f same = let none : None ≡ Some rows = rw f at e in absurd (cc)
    go (Some found) f (inr h) =
        let has = minus_given [] found (subst (λ o. IfSome o (HasMinus [])) f h.1) in
        absurd (true≢false (sym has.1.0))
    go (Some found) f (inl same) =
        let listed : AllListed [] found = subst (λ o. IfSome o (AllListed [])) f (all_listed [] None words tt) in
        let used : uses seats [] found ≡ Some rows = rw f at e in
        record { found = found; come_to = same ∙ f; placed = ap (uses seats []) (sym (words_alone found listed)) ∙ used }

words_refused : (seats words : List Text) → option_and_then (uses seats []) (taken [] None words) ≡ None
    → (found : List Piece) → pieces [] None words ≡ Some found → uses seats [] (map Word (positional found)) ≡ None
words_refused seats words e found come_to =
    let here : taken [] None words ≡ Some found = as_taken [] words found come_to in
    let listed : AllListed [] found = subst (λ o. IfSome o (AllListed [])) here (all_listed [] None words tt) in
    let refused : uses seats [] found ≡ None = rw here at e in
    ap (uses seats []) (sym (words_alone found listed)) ∙ refused

same_pieces : (words : List Text) (found other : List Piece) → pieces [] None words ≡ Some found → pieces [] None words ≡ Some other → found ≡ other
same_pieces words found other come_to come_to_too =
    let both : Some found ≡ Some other = sym come_to ∙ come_to_too in
    cc

-- ---- `query`

query_outcome : (words : List Text) → All_utf8 (drop 1 words) → outcome query_app words ≡ option_and_then (uses query_ids []) (taken [] None (drop 1 words))
query_outcome words utf8 = outcome_is query_app (codes "query") query_rules [] query_ids query_built refl query_optional query_options query_seats words utf8

-- the positional words, as the rows have them
abbrev AreThree : List Text → List Row → Type 0
AreThree words rows = (query : Query)
    → (words ≡ query.pattern ∷ query.from ∷ query.to ∷ [])
    ↔ IsQueryOf (first_of (codes "pattern") rows) (first_of (codes "from") rows) (first_of (codes "to") rows) query

three_told : (words : List Text) (rows : List Row) → uses query_ids [] (map Word words) ≡ Some rows → AreThree words rows
three_told [] rows e =
    let same : [] ≡ rows = cc in
    subst (AreThree []) same (λ query. (λ h. absurd (cc), λ h. let none : None ≡ Some query.pattern = h.pattern_is in absurd (cc)))
three_told (a ∷ []) rows e =
    let same : row (codes "pattern") a ∷ [] ≡ rows = cc in
    subst (AreThree (a ∷ [])) same (λ query. (λ h. absurd (cc), λ h. let none : None ≡ Some query.from = h.from_is in absurd (cc)))
three_told (a ∷ b ∷ []) rows e =
    let same : row (codes "pattern") a ∷ row (codes "from") b ∷ [] ≡ rows = cc in
    subst (AreThree (a ∷ b ∷ [])) same (λ query. (λ h. absurd (cc), λ h. let none : None ≡ Some query.to = h.to_is in absurd (cc)))
three_told (a ∷ b ∷ c ∷ []) rows e =
    let same : row (codes "pattern") a ∷ row (codes "from") b ∷ row (codes "to") c ∷ [] ≡ rows = cc in
    subst (AreThree (a ∷ b ∷ c ∷ [])) same (λ query. (
      λ h.
          let first : a ≡ query.pattern = cc in
          let second : b ≡ query.from = cc in
          let third : c ≡ query.to = cc in
          record { pattern_is = ap (λ t. Some t) first; from_is = ap (λ t. Some t) second; to_is = ap (λ t. Some t) third },
      λ h.
          let first : Some a ≡ Some query.pattern = h.pattern_is in
          let second : Some b ≡ Some query.from = h.from_is in
          let third : Some c ≡ Some query.to = h.to_is in
          cc,
    ))
three_told (a ∷ b ∷ c ∷ d ∷ more) rows e = absurd (cc)

pub query_told : (words : List Text) (rows : List Row) → All_utf8 (drop 1 words) → outcome query_app words ≡ Some rows
    → TellsQuery (drop 1 words) (first_of (codes "pattern") rows) (first_of (codes "from") rows) (first_of (codes "to") rows)
query_told words rows utf8 e query =
    let placed : ArePlaced query_ids (drop 1 words) rows = words_told query_ids (drop 1 words) rows (sym (query_outcome words utf8) ∙ e) in
    let three : AreThree (positional placed.found) rows = three_told (positional placed.found) rows placed.placed in (
      λ a. (three query).0 (ap positional (same_pieces (drop 1 words) placed.found a.found placed.come_to a.come_to) ∙ a.are_three),
      λ is. record { found = placed.found; come_to = placed.come_to; are_three = (three query).1 is },
    )

pub query_refused : (words : List Text) → All_utf8 (drop 1 words) → outcome query_app words ≡ None → (query : Query) → AsksQuery (drop 1 words) query → ⊥
query_refused words utf8 e query a =
    let refused = words_refused query_ids (drop 1 words) (sym (query_outcome words utf8) ∙ e) a.found a.come_to in
    let three : uses query_ids [] (map Word (query.pattern ∷ query.from ∷ query.to ∷ [])) ≡ None =
    ap (λ ws. uses query_ids [] (map Word ws)) (sym a.are_three) ∙ refused in
    cc

-- ---- `drill`

drill_outcome : (words : List Text) → All_utf8 (drop 1 words) → outcome drill_app words ≡ option_and_then (uses drill_ids []) (taken [] None (drop 1 words))
drill_outcome words utf8 = outcome_is drill_app (codes "drill") drill_rules [] drill_ids drill_built refl drill_optional drill_options drill_seats words utf8

-- the positional words, as the rows have them
record AreTwo (words : List Text) (first second : Option Text) : Type 0 where
  there : (start lines : Text) → words ≡ start ∷ lines ∷ [] → (first ≡ Some start) × (second ≡ Some lines)
  back : (start lines : Text) → first ≡ Some start → second ≡ Some lines → words ≡ start ∷ lines ∷ []

two_told : (words : List Text) (rows : List Row) → uses drill_ids [] (map Word words) ≡ Some rows
    → AreTwo words (first_of (codes "start") rows) (first_of (codes "lines") rows)
two_told [] rows e =
    let same : [] ≡ rows = cc in
    subst (λ rs. AreTwo [] (first_of (codes "start") rs) (first_of (codes "lines") rs)) same (record {
      there = λ start lines h. absurd (cc);
      back = λ start lines h k. let none : None ≡ Some start = h in absurd (cc);
    })
two_told (a ∷ []) rows e =
    let same : row (codes "start") a ∷ [] ≡ rows = cc in
    subst (λ rs. AreTwo (a ∷ []) (first_of (codes "start") rs) (first_of (codes "lines") rs)) same (record {
      there = λ start lines h. absurd (cc);
      back = λ start lines h k. let none : None ≡ Some lines = k in absurd (cc);
    })
two_told (a ∷ b ∷ []) rows e =
    let same : row (codes "start") a ∷ row (codes "lines") b ∷ [] ≡ rows = cc in
    subst (λ rs. AreTwo (a ∷ b ∷ []) (first_of (codes "start") rs) (first_of (codes "lines") rs)) same (record {
      there = λ start lines h.
          let first : a ≡ start = cc in
          let second : b ≡ lines = cc in
          (ap (λ t. Some t) first, ap (λ t. Some t) second);
      back = λ start lines h k.
          let first : Some a ≡ Some start = h in
          let second : Some b ≡ Some lines = k in
          cc;
    })
two_told (a ∷ b ∷ c ∷ more) rows e = absurd (cc)

-- the only text is this one
some_from : (given : Option Text) (text : Text) → only given ≡ text ∷ [] → given ≡ Some text
some_from None text once = absurd (cc)
some_from (Some other) text once = let same : other ≡ text = cc in ap (λ t. Some t) same

pub drill_told : (words : List Text) (rows : List Row) → All_utf8 (drop 1 words) → outcome drill_app words ≡ Some rows
    → TellsDrill (drop 1 words) (first_of (codes "start") rows) (first_of (codes "lines") rows)
drill_told words rows utf8 e number count =
    let placed : ArePlaced drill_ids (drop 1 words) rows = words_told drill_ids (drop 1 words) rows (sym (drill_outcome words utf8) ∙ e) in
    let two = two_told (positional placed.found) rows placed.placed in (
      λ a.
          let both = two.there a.start_text a.lines_text
          (ap positional (same_pieces (drop 1 words) placed.found a.found placed.come_to a.come_to) ∙ a.are_two) in
          record {
            start_is = record { text = a.start_text; once = ap only both.0; says = a.start_is };
            lines_are = record { text = a.lines_text; once = ap only both.1; says = a.lines_are };
          },
      λ names. record {
        found = placed.found;
        come_to = placed.come_to;
        start_text = names.start_is.text;
        lines_text = names.lines_are.text;
        are_two = two.back names.start_is.text names.lines_are.text
            (some_from (first_of (codes "start") rows) names.start_is.text names.start_is.once)
            (some_from (first_of (codes "lines") rows) names.lines_are.text names.lines_are.once);
        start_is = names.start_is.says;
        lines_are = names.lines_are.says;
      },
    )

pub drill_refused : (words : List Text) → All_utf8 (drop 1 words) → outcome drill_app words ≡ None
    → (start lines : ℕ) → AsksDrill (drop 1 words) start lines → ⊥
drill_refused words utf8 e start lines a =
    let refused = words_refused drill_ids (drop 1 words) (sym (drill_outcome words utf8) ∙ e) a.found a.come_to in
    let two : uses drill_ids [] (map Word (a.start_text ∷ a.lines_text ∷ [])) ≡ None =
    ap (λ ws. uses drill_ids [] (map Word ws)) (sym a.are_two) ∙ refused in
    cc
