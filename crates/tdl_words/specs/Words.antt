-- What words come to: positional words, and texts that are given to options.
--     form          what a word is by itself: `--`, an option, or a plain word
--     Piece         a positional word, or a text that an option is given
--     pieces        what the words come to where these are the options, if they are well formed
--     positional    the positional words, in order
--     given         the texts that an option is given, in order
--     IsGivenAs     an option says a value: by its one text, or the usual one where it is not given
--     IsGivenOnce   an option that has to be given says a value, by its one text
--     AreOptions    the words are options alone, and this holds of the texts that they are given
use Rattle.std.specs.Prelude.{◌≡◌, ℕ, ◌==◌, Bool, false, List, [], ◌∷◌, map, Option, Some, None, option_map, if◌then◌else◌}
use Rattle.std.specs.List.{after_first, before_first, list_any}
use Rattle.std.specs.Str.{bytes_eq}

pub data Form : Type 0 where
  Plain : Form
  -- `--`
  End : Form
  -- `--name` or `--name=value`
  Long : List ℕ → Option (List ℕ) → Form
  -- another word that begins with `-`
  Other : Form

abbrev pub is_equals : ℕ → Bool
is_equals byte = byte == 61

-- what stands after the first `=`, where there is one
abbrev pub value_of : List ℕ → Option (List ℕ)
value_of text = if list_any is_equals text then Some (after_first is_equals text) else None

-- what a word is by what follows its `--`
abbrev pub long_form : List ℕ → Form
long_form [] = End
long_form (byte ∷ rest) = Long (before_first is_equals (byte ∷ rest)) (value_of (byte ∷ rest))

abbrev pub form : List ℕ → Form
form (first ∷ second ∷ rest) =
    if first == 45 then (if second == 45 then long_form rest else Other) else Plain
form _ = Plain

abbrev pub begins_with_minus : List ℕ → Bool
begins_with_minus (first ∷ rest) = first == 45
begins_with_minus [] = false

pub data Piece : Type 0 where
  Word : List ℕ → Piece
  -- the name of the option, and the text
  Given : List ℕ → List ℕ → Piece

abbrev pub is_listed : List (List ℕ) → List ℕ → Bool
is_listed names name = list_any (λ listed. bytes_eq listed name) names

-- a piece before those of what follows
abbrev pub before : Piece → Option (List Piece) → Option (List Piece)
before piece = option_map (λ rest. piece ∷ rest)

-- `after` says what the words after an option come to, where nothing or this option waits for its value
abbrev pub option_pieces : List ℕ → Option (List ℕ) → (Option (List ℕ) → Option (List Piece)) → Option (List Piece)
option_pieces name (Some value) after = before (Given name value) (after None)
option_pieces name None after = after (Some name)

abbrev pub pieces_by_form : List (List ℕ) → Form → List ℕ → List (List ℕ) → (Option (List ℕ) → Option (List Piece)) → Option (List Piece)
pieces_by_form names Plain word rest after = before (Word word) (after None)
pieces_by_form names End word rest after = Some (map Word rest)
pieces_by_form names (Long name value) word rest after = if is_listed names name then option_pieces name value after else None
pieces_by_form names Other word rest after = None

-- the words where an option waits for its value, or none does
unfoldable pub pieces : List (List ℕ) → Option (List ℕ) → List (List ℕ) → Option (List Piece)
pieces names None [] = Some []
pieces names (Some name) [] = None
pieces names None (word ∷ rest) = pieces_by_form names (form word) word rest (λ waiting. pieces names waiting rest)
pieces names (Some name) (word ∷ rest) = if begins_with_minus word then None else before (Given name word) (pieces names None rest)

abbrev pub positional : List Piece → List (List ℕ)
positional [] = []
positional (Word word ∷ rest) = word ∷ positional rest
positional (Given name text ∷ rest) = positional rest

abbrev pub given : List ℕ → List Piece → List (List ℕ)
given name [] = []
given name (Word word ∷ rest) = given name rest
given name (Given other text ∷ rest) = if bytes_eq other name then text ∷ given name rest else given name rest

abbrev pub IsGivenAs : {X : Type 0} → (List ℕ → X → Type 0) → X → List (List ℕ) → X → Type 0
IsGivenAs IsTextOf usual [] x = x ≡ usual
IsGivenAs IsTextOf usual (text ∷ []) x = IsTextOf text x
IsGivenAs IsTextOf usual (first ∷ second ∷ rest) x = ⊥

pub record IsGivenOnce {X : Type 0} (IsTextOf : List ℕ → X → Type 0) (texts : List (List ℕ)) (x : X) : Type 0 where
  pub text : List ℕ
  pub once : texts ≡ text ∷ []
  pub says : IsTextOf text x

-- each of these options by its name; no positional word
pub record AreOptions (names : List (List ℕ)) (Say : (List ℕ → List (List ℕ)) → Type 0) (words : List (List ℕ)) : Type 0 where
  pub found : List Piece
  pub come_to : pieces names None words ≡ Some found
  pub none_alone : positional found ≡ []
  pub say : Say (λ name. given name found)
