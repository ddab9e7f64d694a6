-- What the parser makes of the words, as uses of their pieces.
--     HasOptions    the options of the rules have these names, and their own names as ids
--     HasSeats      the positional arguments from a place on have these ids
--     taken         the pieces as the parser takes them: `-` alone may be a value
use Rattle.std.proofs.Common.{◌≡◌, ap₂, ◌+◌, ℕ, Bool, true, false, refl, List, [], ◌∷◌, length, min, map, fold, Option, Some, None, sym, ap, ◌∙◌}
use Rattle.std.proofs.Math.Bool.{and-false}
use Rattle.std.specs.Prelude.{if◌then◌else◌, slice_get}
use Rattle.std.specs.Option.{option_and_then}
use Rattle.std.specs.Str.{IsUtf8, bytes_eq, chars}
use Rattle.std.proofs.lemmas.Slice.Eq.{bytes_eq-Decides}
use Rattle.clap.specs.Lexer.{long_of, short_of, usize_max}
use Rattle.clap.specs.Kinds.{Kinds, or_else}
use Rattle.clap.specs.Simple.{Shape, new_shape}
use Rattle.clap.specs.Faults.{flags_fault, use_fault, settle_fault, turn_fault, walk_fault}
use Rattle.clap.specs.Walk.{Held, Row, Rule, Text, Waiting, Walk, arg_by_id, arg_by_index, arg_by_long, arg_by_short, idle, option, settled, settled_rows}
use Rattle.clap.specs.Walk.{used, walked}
use Rattle.clap.specs.declared.error.kind.ErrorKind.TheVariants as kind
use Rattle.tdl_words.specs.Words.{Form, Plain, Long, Piece, Word, Given, before, form, is_listed, pieces_by_form}
use Rattle.tdl_words.proofs.Past.{past, past-step, past-or, past-then, then-none, then-same, then-some}
use Rattle.tdl_words.proofs.Rules.{put, set_rule, use_is, uses, uses-given, uses-no_seat, uses-word}
use Rattle.tdl_words.proofs.Looks.{Looks, looks, as_plain, as_end, as_long, as_other, dashes}

abbrev pub option_rule : Text → Rule
option_rule name = set_rule name (Some name) None

abbrev pub seat_rule : Text → ℕ → Rule
seat_rule id place = set_rule id None (Some place)

pub record HasOptions (rules : List Rule) (names : List Text) : Type 0 where
  pub by_long : (name : Text) → arg_by_long rules name ≡ (if is_listed names name then Some (option_rule name) else None)
  pub by_id : (name : Text) → is_listed names name ≡ true → arg_by_id rules name ≡ Some (option_rule name)
  pub by_short : (char : ℕ) → arg_by_short rules char ≡ None

abbrev pub after : ℕ → ℕ
after place = min (place + 1) usize_max

abbrev pub HasSeats : List Rule → ℕ → List Text → Type 0
HasSeats rules place [] = arg_by_index rules place ≡ None
HasSeats rules place (id ∷ ids) =
    (arg_by_index rules place ≡ Some (seat_rule id place)) × (arg_by_id rules id ≡ Some (seat_rule id place)) × HasSeats rules (after place) ids

abbrev pub All_utf8 : List Text → Type 0
All_utf8 [] = Unit {0}
All_utf8 (word ∷ rest) = IsUtf8 word × All_utf8 rest

-- the shape of a built command without subcommands
abbrev pub mode_shape : Text → List Rule → Shape
mode_shape name rules = record (new_shape name) {
  rules = rules;
  disable_help_flag = true;
  disable_help_subcommand = true;
  disable_version_flag = true;
  is_built = true;
}

abbrev pub value_by_form : Form → Text → Text → Option (List Piece) → Option (List Piece)
value_by_form Plain name word rest = before (Given name word) rest
value_by_form form name word rest = None

unfoldable pub taken : List Text → Option Text → List Text → Option (List Piece)
taken names None [] = Some []
taken names (Some name) [] = None
taken names None (word ∷ rest) = pieces_by_form names (form word) word rest (λ waiting. taken names waiting rest)
taken names (Some name) (word ∷ rest) = value_by_form (form word) name word (taken names None rest)

abbrev Pending : Type 0
Pending = Option (Text × List Text)

abbrev holding : List Row → Pending → Held
holding rows pending = record { rows = rows; pending = pending; skip = 0 }

-- the walk between two words
abbrev between : List Row → Pending → Waiting → ℕ → Bool → Walk
between rows pending waiting place is_trailing =
    record { held = holding rows pending; waiting = waiting; position = place; is_trailing = is_trailing; stopped = None }

-- the rows once what is pending is used
abbrev settles : List Rule → Held → Option (List Row)
settles rules h = past (settle_fault rules false h) (Some (settled rules h).rows)

-- the rows at the end of the words
abbrev pub ends : Text → List Rule → Walk → List Text → Option (List Row)
ends name rules w words =
    let end = (fold (walked rules []) w words).held in
    past (or_else (walk_fault (mode_shape name rules) [] w words) (settle_fault rules false end)) (Some (settled rules end).rows)

bundle_refused : (rules : List Rule) (flags : Text) (char : ℕ) (h : Held) → arg_by_short rules char ≡ None → slice_get (chars flags) 0 ≡ Some char
    → flags_fault rules false (length flags) flags 0 h ≡ kind.UnknownArgument ∷ []
unfolding flags_fault chars
bundle_refused rules [] char h unknown first = cc
bundle_refused rules (x ∷ xs) char h unknown first = rw (first, unknown) refl

module _ (mode : Text) (rules : List Rule) where
  -- one word, and then the others
  step : (w next : Walk) (word : Text) (rest : List Text) (faults : Kinds) → turn_fault (mode_shape mode rules) [] w word ≡ faults
      → walked rules [] w word ≡ next
      → ends mode rules w (word ∷ rest) ≡ past faults (ends mode rules next rest)
  unfolding walk_fault
  step w next word rest faults turns walks =
      past-step (turn_fault (mode_shape mode rules) [] w word) _ _ _ ∙ ap₂ (λ f v. past f (ends mode rules v rest)) turns walks

  settles_one : (id word : Text) (long_name : Option Text) (index : Option ℕ) (rows : List Row) → arg_by_id rules id ≡ Some (set_rule id long_name index)
      → settles rules (holding rows (Some (id, word ∷ []))) ≡ put id word rows
  settles_one id word long_name index rows by_id = rw by_id (use_is id long_name index word rows)

  -- what is pending is used, and then this use
  goes_on : (rows : List Row) (pending : Pending) (one : List Row → Option (List Row)) (others all : List Row → Option (List Row)) (rest : Option (List Row))
      → rest ≡ option_and_then others (one (settled_rows rules pending rows)) → ((now : List Row) → all now ≡ option_and_then others (one now))
      → past (settle_fault rules false (holding rows pending)) rest ≡ option_and_then all (settles rules (holding rows pending))
  goes_on rows pending one others all rest is all_is =
      let now = settled_rows rules pending rows in
      let faults = settle_fault rules false (holding rows pending) in
      ap (past faults) (is ∙ sym (all_is now)) ∙ sym (past-then all faults (Some now))

  nothing : (rows : List Row) (pending : Pending) (all : List Row → Option (List Row)) → ((now : List Row) → all now ≡ None)
      → option_and_then all (settles rules (holding rows pending)) ≡ None
  nothing rows pending all none = then-same all (λ now. None) (settles rules (holding rows pending)) none ∙ then-none (settles rules (holding rows pending))

  -- the words after `--`
  trailing : (words seats : List Text) (rows : List Row) (pending : Pending) (waiting : Waiting) (place : ℕ) → HasSeats rules place seats
      → ends mode rules (between rows pending waiting place true) words
      ≡ option_and_then (λ now. uses seats now (map Word words)) (settles rules (holding rows pending))
  unfolding walk_fault walked
  trailing [] seats rows pending waiting place has = sym (then-some (settles rules (holding rows pending)))
  trailing (word ∷ rest) [] rows pending waiting place none =
      step (between rows pending waiting place true) _ word rest (kind.UnknownArgument ∷ []) (rw none refl) refl
      ∙ sym (then-none (settles rules (holding rows pending)))
  trailing (word ∷ rest) (id ∷ seats) rows pending waiting place has =
      let now = settled_rows rules pending rows in
      let others : List Row → Option (List Row) = λ n. uses seats n (map Word rest) in
      step (between rows pending waiting place true) (between now (Some (
        id,
        word
            ∷ [],
      )) idle (after place) true) word rest (settle_fault rules false (holding rows pending))
      (rw (has.0, and-false) refl) (rw (has.0, and-false) refl)
      ∙ goes_on rows pending (put id word) others (λ n. uses (id ∷ seats) n (map Word (word ∷ rest))) _
      (trailing rest seats now (Some (id, word ∷ [])) idle (after place) has.2
      ∙ ap (option_and_then others) (settles_one id word None (Some place) now has.1)) (λ n. refl)

  module _ (names : List Text) (o : HasOptions rules names) where
    -- what the words come to, from these rows on
    abbrev come_to : Option Text → List Text → List Text → List Row → Option (List Row)
    come_to waiting words seats rows = option_and_then (uses seats rows) (taken names waiting words)

    abbrev Idle : List Text → Type 0
    Idle words = (seats : List Text) (rows : List Row) (pending : Pending) (place : ℕ) → HasSeats rules place seats
        → ends mode rules (between rows pending idle place false) words ≡ option_and_then (come_to None words seats) (settles rules (holding rows pending))

    abbrev Waits : List Text → Type 0
    Waits words = (name : Text) (seats : List Text) (rows : List Row) (place : ℕ) → is_listed names name ≡ true → HasSeats rules place seats
        → ends mode rules (between rows (Some (name, [])) (option name) place false) words ≡ come_to (Some name) words seats rows

    -- a word that is no option, with the seat that it takes
    plain_word : (word : Text) (rest : List Text) → Idle rest → form word ≡ Plain → bytes_eq word dashes ≡ false → long_of word ≡ None
        → short_of word ≡ None → Idle (word ∷ rest)
    unfolding walked taken
    plain_word word rest idles f d l s [] rows pending place none =
        step (between rows pending idle place false) _ word rest (kind.UnknownArgument ∷ []) (rw (d, l, s, none) refl) refl
        ∙ sym (nothing rows pending (come_to None (word ∷ rest) []) (λ n. rw f (uses-no_seat word (taken names None rest) n)))
    plain_word word rest idles f d l s (id ∷ seats) rows pending place has =
        let now = settled_rows rules pending rows in
        step (between rows pending idle place false) (between now (Some (
          id,
          word
              ∷ [],
        )) idle (after place) false) word rest (settle_fault rules false (holding rows pending))
        (rw (d, l, s, has.0, and-false) refl) (rw (d, l, s, has.0, and-false) refl)
        ∙ goes_on rows pending (put id word) (come_to None rest seats) (come_to None (word ∷ rest) (id ∷ seats)) _
        (idles seats now (Some (id, word ∷ [])) (after place) has.2
        ∙ ap (option_and_then (come_to None rest seats)) (settles_one id word None (Some place) now has.1))
        (λ n. rw f (uses-word id seats word (taken names None rest) n))

    -- an option that the mode has, with its value in the word or in the next
    option_word : (word : Text) (rest : List Text) (name : Text) (value : Option Text) → Idle rest → Waits rest → is_listed names name ≡ true
        → form word ≡ Long name value → bytes_eq word dashes ≡ false → long_of word ≡ Some (name, value) → Idle (word ∷ rest)
    unfolding walked taken
    option_word word rest name None idles waits listed f d l seats rows pending place has =
        let now = settled_rows rules pending rows in
        let faults = settle_fault rules false (holding rows pending) in
        let known = o.by_long name in
        step (between rows pending idle place false) (between now (Some (name, [])) (option name) place false) word rest (or_else faults [])
        (rw (d, l, known, listed) refl) (rw (d, l, known, listed) refl)
        ∙ past-or faults [] _
        ∙ ap (past faults) (waits name seats now place listed has)
        ∙ sym (past-then (come_to None (word ∷ rest) seats) faults (Some now) ∙ ap (past faults) (rw (f, listed) refl))
    option_word word rest name (Some value) idles waits listed f d l seats rows pending place has =
        let now = settled_rows rules pending rows in
        let faults = settle_fault rules false (holding rows pending) in
        let known = o.by_long name in
        let used_faults = use_fault false (option_rule name) (value ∷ []) now in
        step (between rows pending idle place false) (between (used (option_rule name) (value
        ∷ []) now) None idle place false) word rest (or_else (or_else faults used_faults) [])
        (rw (d, l, known, listed) refl) (rw (d, l, known, listed) refl)
        ∙ past-or (or_else faults used_faults) [] _
        ∙ past-or faults used_faults _
        ∙ goes_on rows pending (put name value) (come_to None rest seats) (come_to None (word ∷ rest) seats) _
        (ap (past used_faults) (idles seats (used (option_rule name) (value ∷ []) now) None place has)
        ∙ sym (past-then (come_to None rest seats) used_faults (Some (used (option_rule name) (value ∷ []) now)))
        ∙ ap (option_and_then (come_to None rest seats)) (use_is name (Some name) None value now))
        (λ n. rw (f, listed) (uses-given seats name value (taken names None rest) n))

    idle_word : (word : Text) (rest : List Text) → Idle rest → Waits rest → Looks word → Idle (word ∷ rest)
    unfolding walked taken
    idle_word word rest idles waits (as_plain f d l s) = plain_word word rest idles f d l s
    idle_word word rest idles waits (as_end f d) = λ seats rows pending place has.
        step (between rows pending idle place false) (between rows pending idle place true) word rest [] (rw d refl) (rw d refl)
        ∙ trailing rest seats rows pending idle place has
        ∙ then-same (λ n. uses seats n (map Word rest)) (come_to None (word ∷ rest) seats) (settles rules (holding rows pending)) (λ n. rw f refl)
    idle_word word rest idles waits (as_long name value f d l) = λ seats rows pending place has. by_name
        (is_listed names name) refl seats rows pending place has
      where
        by_name : (t : Bool) → is_listed names name ≡ t → Idle (word ∷ rest)
        by_name true listed = option_word word rest name value idles waits listed f d l
        by_name false listed = λ seats rows pending place has.
            let known = o.by_long name in
            step (between rows pending idle place false) _ word rest (kind.UnknownArgument ∷ []) (rw (d, l, known, listed) refl) refl
            ∙ sym (nothing rows pending (come_to None (word ∷ rest) seats) (λ n. rw (f, listed) refl))
    idle_word word rest idles waits (as_other flags char f d l s first) = λ seats rows pending place has.
        step (between rows pending idle place false) _ word rest (kind.UnknownArgument
        ∷ []) (rw (d, l, s, bundle_refused rules flags char _ (o.by_short char) first) refl) refl
        ∙ sym (nothing rows pending (come_to None (word ∷ rest) seats) (λ n. rw f refl))

    -- an option that waits for its value cannot be used as it is
    waits_fault : (name : Text) (rows : List Row) → is_listed names name ≡ true
        → settle_fault rules false (holding rows (Some (name, []))) ≡ kind.InvalidValue ∷ []
    waits_fault name rows listed = rw (o.by_id name listed) refl

    waits_word : (word : Text) (rest : List Text) → Idle rest → Looks word → Waits (word ∷ rest)
    unfolding walked taken
    waits_word word rest idles (as_plain f d l s) name seats rows place listed has =
        let known = o.by_id name listed in
        let same : bytes_eq name name ≡ true = (bytes_eq-Decides name name).1 refl in
        step (between rows (Some (name, [])) (option name) place false) (between rows (Some (name, word ∷ [])) idle place false) word rest []
        (rw (d, l, s) refl) (rw (d, l, s, known, same) refl)
        ∙ idles seats rows (Some (name, word ∷ [])) place has
        ∙ ap (option_and_then (come_to None rest seats)) (settles_one name word (Some name) None rows known)
        ∙ sym (rw f (uses-given seats name word (taken names None rest) rows))
    waits_word word rest idles (as_end f d) name seats rows place listed has =
        step (between rows (Some (name, [])) (option name) place false) (between rows (Some (name, [])) (option name) place true) word rest [] (rw d refl)
        (rw d refl)
        ∙ trailing rest seats rows (Some (name, [])) (option name) place has
        ∙ rw (o.by_id name listed, f) refl
    waits_word word rest idles (as_long other value f d l) name seats rows place listed has = by_name (is_listed names other) refl value f l
      where
        by_name : (t : Bool) → is_listed names other ≡ t → (v : Option Text) → form word ≡ Long other v → long_of word ≡ Some (other, v)
            → ends mode rules (between rows (Some (name, [])) (option name) place false) (word ∷ rest) ≡ come_to (Some name) (word ∷ rest) seats rows
        by_name false unknown v form_is long_is =
            let known = o.by_long other in
            step (between rows (Some (name, [])) (option name) place false) _ word rest (kind.UnknownArgument
            ∷ []) (rw (d, long_is, known, unknown) refl) refl ∙ sym (rw form_is refl)
        by_name true other_listed None form_is long_is =
            let known = o.by_long other in
            step (between rows (Some (name, [])) (option name) place false) _ word rest (kind.InvalidValue
            ∷ []) (rw (d, long_is, known, other_listed, waits_fault name rows listed) refl) refl
            ∙ sym (rw form_is refl)
        by_name true other_listed (Some v) form_is long_is =
            let known = o.by_long other in
            step (between rows (Some (name, [])) (option name) place false) _ word rest (kind.InvalidValue
            ∷ []) (rw (d, long_is, known, other_listed, waits_fault name rows listed) refl) refl
            ∙ sym (rw form_is refl)
    waits_word word rest idles (as_other flags char f d l s first) name seats rows place listed has =
        step (between rows (Some (name, [])) (option name) place false) _ word rest (kind.UnknownArgument
        ∷ []) (rw (d, l, s, bundle_refused rules flags char _ (o.by_short char) first) refl) refl
        ∙ sym (rw f refl)

    pub walks : (words : List Text) → All_utf8 words → Idle words × Waits words
    unfolding taken walk_fault
    walks [] utf8 = (
      λ seats rows pending place has. sym (then-some (settles rules (holding rows pending))),
      λ name seats rows place listed has. ap (λ f. past f (Some (settled rules (holding rows (Some (name, [])))).rows)) (waits_fault name rows listed),
    )
    walks (word ∷ rest) utf8 =
        let rest_walks = walks rest utf8.1 in
        (idle_word word rest rest_walks.0 rest_walks.1 (looks word utf8.0), waits_word word rest rest_walks.0 (looks word utf8.0))
