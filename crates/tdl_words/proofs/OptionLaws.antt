-- What a parse of options alone tells of the words.
--     AllFit             each listed option has one text at most, and no `-`
--     options_told       where it ends, the words are these options exactly where what was found says so
--     options_refused    where it does not, they are not
--     pace_fits, serve_fits    what a tempo and `serve` say, says that
use Rattle.std.proofs.Common.{◌≡◌, ◌↔◌, ◌<◌, ◌++◌, ℕ, arith, Bool, true, false, refl, List, [], ◌∷◌, Option, Some, None, true≢false, sym, ap}
use Rattle.std.proofs.Common.{subst, ◌∙◌, ◌⊎◌, inl, inr}
use Rattle.std.proofs.lemmas.Slice.Eq.{bytes_eq-Decides}
use Rattle.std.specs.Prelude.{IfSome}
use Rattle.std.specs.Option.{option_and_then}
use Rattle.std.specs.Str.{bytes_eq}
use Rattle.clap.specs.Walk.{Row, Text, first_of}
use Rattle.std.specs.Char.{digit_value}
use Rattle.std.specs.Str.Parse.{IsNumeral}
use Rattle.tdl_fraction.specs.Rational.{Rational}
use Rattle.tdl_fraction.specs.Reading.{over, sign}
use Rattle.tdl_tempo.specs.Tempo.{Pace}
use Rattle.tdl_words.specs.Words.{AreOptions, Piece, Word, Given, IsGivenAs, IsGivenOnce, given, is_listed, pieces, positional}
use Rattle.tdl_words.specs.Modes.{IsCpsText, IsWholeText, SayPace, SayServe, cps_option, cycles_option, max_cycles}
use Rattle.tdl_words.specs.Modes.{max_performers, origin_option, performers_option, play_options, serve_options, usual_pace}
use Rattle.tdl_words.specs.inside.Tells.{only}
use Rattle.tdl_words.proofs.Given.{AllListed, HasMinus, IsAtMostOne, MayUse, SameOrMinus, all_listed, minus, same_or_minus, used_once, uses_tell}
use Rattle.tdl_words.proofs.Rules.{uses}
use Rattle.tdl_words.proofs.Walks.{taken}

-- `-` is one of the texts
abbrev IsAmong : List Text → Type 0
IsAmong [] = ⊥
IsAmong (text ∷ rest) = (text ≡ minus) ⊎ IsAmong rest

pub minus_given : (names : List Text) (found : List Piece) → HasMinus names found → (name : Text) × ((is_listed names name ≡ true) × IsAmong (given name found))
minus_given names [] h = absurd h
minus_given names (Word word ∷ rest) h = minus_given names rest h
minus_given names (Given id text ∷ rest) (inl h) =
    let same : bytes_eq id id ≡ true = (bytes_eq-Decides id id).1 refl in
    (id, (h.0, rw same (inl h.1)))
minus_given names (Given id text ∷ rest) (inr h) =
    let more = minus_given names rest h in
    (more.0, (more.1.0, go more.0 more.1.1 (bytes_eq id more.0) refl))
  where
    go : (name : Text) → IsAmong (given name rest) → (t : Bool) → bytes_eq id name ≡ t → IsAmong (given name (Given id text ∷ rest))
    go name among true e = rw e (inr among)
    go name among false e = rw e among

only_minus : (o : Option Text) → IsAmong (only o) → o ≡ Some minus
only_minus None h = absurd h
only_minus (Some text) (inl e) = ap (λ t. Some t) e
only_minus (Some text) (inr h) = absurd h

-- what a parse of options alone found
record Found (names : List Text) (words : List Text) (rows : List Row) : Type 0 where
  found : List Piece
  as_taken : taken names None words ≡ Some found
  alone : positional found ≡ []
  told : (name : Text) → given name found ≡ only (first_of name rows)

options_found : (names words : List Text) (rows : List Row) → option_and_then (uses [] []) (taken names None words) ≡ Some rows → Found names words rows
options_found names words rows e = go (taken names None words) refl
  where
    go : (o : Option (List Piece)) → taken names None words ≡ o → Found names words rows
    go None f = let none : None ≡ Some rows = rw f at e in absurd (cc)
    go (Some found) f =
        let tells = uses_tell found [] rows (rw f at e) in
        record { found = found; as_taken = f; alone = tells.0; told = λ name. sym (tells.1 name) }

-- the grammar has no other pieces
pub exactly : (names words : List Text) (found exact : List Piece) → taken names None words ≡ Some found → pieces names None words ≡ Some exact → exact ≡ found
exactly names words found exact as_taken e = go (same_or_minus names None words tt)
  where
    go : SameOrMinus names (pieces names None words) (taken names None words) → exact ≡ found
    go (inl same) = cc
    go (inr h) = let none : pieces names None words ≡ None = h.0 in absurd (cc)

-- the grammar has these pieces, or `-` alone was given to an option
or_minus : (names words : List Text) (rows : List Row) (f : Found names words rows)
    → (pieces names None words ≡ Some f.found) ⊎ ((name : Text) × ((is_listed names name ≡ true) × (first_of name rows ≡ Some minus)))
or_minus names words rows f = go (same_or_minus names None words tt)
  where
    go : SameOrMinus names (pieces names None words) (taken names None words)
        → (pieces names None words ≡ Some f.found) ⊎ ((name : Text) × ((is_listed names name ≡ true) × (first_of name rows ≡ Some minus)))
    go (inl same) = inl (same ∙ f.as_taken)
    go (inr h) =
        let has = minus_given names f.found (subst (λ o. IfSome o (HasMinus names)) f.as_taken h.1) in
        inr (has.0, (has.1.0, only_minus (first_of has.0 rows) (subst IsAmong (f.told has.0) has.1.1)))

-- pieces by the grammar are those that the parser takes
pub as_taken : (names words : List Text) (found : List Piece) → pieces names None words ≡ Some found → taken names None words ≡ Some found
as_taken names words found e = go (same_or_minus names None words tt)
  where
    go : SameOrMinus names (pieces names None words) (taken names None words) → taken names None words ≡ Some found
    go (inl same) = sym same ∙ e
    go (inr h) = let none : pieces names None words ≡ None = h.0 in absurd (cc)

-- ---- what options say

abbrev IsFit : List Text → Type 0
IsFit [] = Unit {0}
IsFit (text ∷ []) = text ≡ minus → ⊥
IsFit (first ∷ second ∷ rest) = ⊥

abbrev pub AllFit : List Text → (Text → List Text) → Type 0
AllFit [] texts = Unit {0}
AllFit (name ∷ rest) texts = IsFit (texts name) × AllFit rest texts

fit_listed : (names : List Text) (texts : Text → List Text) → AllFit names texts → (name : Text) → is_listed names name ≡ true → IsFit (texts name)
fit_listed [] texts fit name known = absurd (true≢false (sym known))
fit_listed (n ∷ ns) texts fit name known = go (bytes_eq n name) refl (fit_listed ns texts fit.1 name)
  where
    go : (t : Bool) → bytes_eq n name ≡ t → (is_listed ns name ≡ true → IsFit (texts name)) → IsFit (texts name)
    go true e next = subst (λ m. IsFit (texts m)) ((bytes_eq-Decides n name).0 e) fit.0
    go false e next = next (rw e at known)

at_most_one : (texts : List Text) → IsFit texts → IsAtMostOne texts
at_most_one [] fit = tt
at_most_one (text ∷ []) fit = tt
at_most_one (first ∷ second ∷ rest) fit = absurd fit

no_minus : (found : Option Text) → IsFit (only found) → found ≡ Some minus → ⊥
no_minus None fit e = absurd (cc)
no_minus (Some text) fit e = let same : text ≡ minus = cc in fit same

module _ (names words : List Text) (Say : (Text → List Text) → Type 0) (fits : (texts : Text → List Text) → Say texts → AllFit names texts) where
  abbrev by_rows : List Row → Text → List Text
  by_rows rows name = only (first_of name rows)

  pub options_told : (rows : List Row) → option_and_then (uses [] []) (taken names None words) ≡ Some rows
      → AreOptions names Say words ↔ Say (λ name. only (first_of name rows))
  options_told rows e = (there, back)
    where
      f : Found names words rows
      f = options_found names words rows e

      told : (λ name. given name f.found) ≡ by_rows rows
      told = λ i name. f.told name i

      there : AreOptions names Say words → Say (by_rows rows)
      there a =
          let same : a.found ≡ f.found = exactly names words f.found a.found f.as_taken a.come_to in
          subst Say (ap (λ found name. given name found) same ∙ told) a.say

      back : Say (by_rows rows) → AreOptions names Say words
      back said = go (or_minus names words rows f)
        where
          go : (pieces names None words ≡ Some f.found) ⊎ ((name : Text) × ((is_listed names name ≡ true) × (first_of name rows ≡ Some minus)))
              → AreOptions names Say words
          go (inl h) = record { found = f.found; come_to = h; none_alone = f.alone; say = subst Say (sym told) said }
          go (inr h) = absurd (no_minus (first_of h.0 rows) (fit_listed names (by_rows rows) (fits (by_rows rows) said) h.0 h.1.0) h.1.1)

  pub options_refused : option_and_then (uses [] []) (taken names None words) ≡ None → AreOptions names Say words → ⊥
  options_refused e a =
      let here : taken names None words ≡ Some a.found = as_taken names words a.found a.come_to in
      let refused : uses [] [] a.found ≡ None = rw here at e in
      let listed : AllListed names a.found = subst (λ o. IfSome o (AllListed names)) here (all_listed names None words tt) in
      used_once names a.found [] listed a.none_alone may refused
    where
      may : MayUse names [] a.found
      may name known = (
        λ used. absurd (true≢false (sym used)),
        at_most_one (given name a.found) (fit_listed names (λ n. given n a.found) (fits (λ n. given n a.found) a.say) name known),
      )

-- ---- the options of `play` and `serve`

given_fits : {X : Type 0} (IsTextOf : Text → X → Type 0) → ((x : X) → IsTextOf minus x → ⊥)
    → (usual : X) (texts : List Text) (x : X) → IsGivenAs IsTextOf usual texts x → IsFit texts
given_fits IsTextOf none usual [] x says = tt
given_fits IsTextOf none usual (text ∷ []) x says = λ is. none x (subst (λ t. IsTextOf t x) is says)
given_fits IsTextOf none usual (first ∷ second ∷ rest) x says = absurd says

once_fits : {X : Type 0} (IsTextOf : Text → X → Type 0) → ((x : X) → IsTextOf minus x → ⊥)
    → (texts : List Text) (x : X) → IsGivenOnce IsTextOf texts x → IsFit texts
once_fits IsTextOf none texts x says = subst IsFit (sym says.once) (λ is. none x (subst (λ t. IsTextOf t x) is says.says))

lone_cps : (cps : Rational) → IsCpsText minus cps → ⊥
lone_cps cps h = go h.reads.writes.is_negative h.reads.writes.numerator h.reads.writes.denominator h.reads.writes.spelled h.reads.writes.numerator_fits.numeral
  where
    go : (is_negative : Bool) (digits : List ℕ) (denominator : Option (List ℕ)) → minus ≡ sign is_negative ++ (digits ++ over denominator)
        → IsNumeral 10 digits → ⊥
    go is_negative [] denominator e n = omega (arith, n.0)
    go true (x ∷ xs) denominator e n = cc
    go false (x ∷ xs) denominator e n =
        let first : x ≡ 45 = cc in
        let digit : digit_value 45 < 10 = subst (λ (d : ℕ). digit_value d < 10) first n.1.0 in
        omega (arith, digit)

lone_whole : (least most number : ℕ) → IsWholeText least most minus number → ⊥
lone_whole least most number h = omega (arith, h.digits.numeral.1.0)

pub pace_fits : (pace : Pace) (texts : Text → List Text) → SayPace texts pace → AllFit play_options texts
pace_fits pace texts say = (
  given_fits IsCpsText lone_cps usual_pace.cps (texts cps_option) pace.cps say.cps,
  (given_fits (IsWholeText 0 4294967295) (lone_whole 0 4294967295) usual_pace.origin (texts origin_option) pace.origin say.origin, tt),
)

pub serve_fits : (pace : Pace) (performers cycles : ℕ) (texts : Text → List Text) → SayServe texts pace performers cycles → AllFit serve_options texts
serve_fits pace performers cycles texts say = (
  once_fits (IsWholeText 1 max_performers) (lone_whole 1 max_performers) (texts performers_option) performers say.performers_are,
  (
    once_fits (IsWholeText 1 max_cycles) (lone_whole 1 max_cycles) (texts cycles_option) cycles say.cycles_are,
    pace_fits pace texts say.tempo_is,
  ),
)
