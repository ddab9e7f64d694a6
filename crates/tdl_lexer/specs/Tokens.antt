-- Texts cut into the tokens of a language.
--     language          the language of a mode
--     byte_before       the byte before an offset; a blank stands before the first
--     next_place        the first offset from there on that is behind the blank space
--     NextToken         the first token from an offset on
--     Front             these tokens in turn lead from one offset to another
--     Faulty            what stands after a byte at the front of a text is no token
--     IsCut             the tokens of a text
--     IsFaultAt         the first fault of a text, and its offset
--     Refuses           what a refusal says of the text
use Rattle.std.specs.Prelude.{◌≡◌, ℕ, ◌+◌, ◌<◌, ◌≤◌, ◌⊎◌, nat_le, if◌then◌else◌, Some, None, List, [], ◌∷◌, ◌++◌, length, drop, slice_index, slice_range}
use Rattle.tdl_control.specs.declared.faults.Faulted.{Faulted}
use Rattle.tdl_control.specs.declared.faults.Faulted.TheVariants.{NoMemory, At}
use Rattle.tdl_lexer.specs.declared.signs.Mode.{Mode}
use Rattle.tdl_lexer.specs.declared.signs.Mode.TheVariants.{Mini, Line}
use Rattle.tdl_lexer.specs.declared.signs.Sign.TheVariants.{End}
use Rattle.tdl_lexer.specs.declared.signs.Token.{Token}
use Rattle.tdl_lexer.specs.declared.signs.LexKind.{LexKind}
use Rattle.tdl_lexer.specs.declared.signs.LexKind.TheVariants.{NotAscii, UnknownSign}
use Rattle.tdl_lexer.specs.declared.lexemes.Flaw.{Flaw}
use Rattle.tdl_lexer.specs.Bytes.{begins}
use Rattle.tdl_lexer.specs.Languages.{at_front, Language}
use Rattle.tdl_lexer.specs.MiniForms.{mini_notation}
use Rattle.tdl_lexer.specs.LineForms.{line_notation}

abbrev pub language : Mode → Language
language Mini = mini_notation
language Line = line_notation

abbrev pub byte_before : List ℕ → ℕ → ℕ
byte_before text at = slice_index (32 ∷ text) at

abbrev pub next_place : Language → List ℕ → ℕ → ℕ
next_place L text from = from + length (L.blank (drop from text))

-- behind the blank space stands a form without flaw, which is the slice of the text from the token's offset to its end
pub record NextToken (L : Language) (text : List ℕ) (from : ℕ) (t : Token) : Type 0 where
  pub form : L.Form
  pub place : t.at ≡ next_place L text from
  pub within : t.end ≤ length text
  pub is : slice_range text t.at t.end ≡ L.spell form
  pub stands : L.Stands form (byte_before text t.at) (drop t.end text)
  pub flawless : L.flaw form (drop t.end text) ≡ None
  pub sign : t.sign ≡ L.sign form

abbrev pub Front : Language → List ℕ → List Token → ℕ → ℕ → Type 0
Front L text [] from to = from ≡ to
Front L text (t ∷ tokens) from to = NextToken L text from t × Front L text tokens t.end to

-- a form with this flaw stands there
pub record IsFlawed (L : Language) (flaw : Flaw) (last : ℕ) (rest : List ℕ) : Type 0 where
  pub form : L.Form
  pub after : List ℕ
  pub joined : rest ≡ L.spell form ++ after
  pub stands : L.Stands form last after
  pub is : L.flaw form after ≡ Some flaw

-- no form stands there, but some byte
pub record IsFormless (L : Language) (last : ℕ) (rest : List ℕ) : Type 0 where
  pub filled : 0 < length rest
  pub formless : (form : L.Form) (after : List ℕ) → rest ≡ L.spell form ++ after → L.Stands form last after → ⊥

-- the kind of the fault of a byte with which no form begins
abbrev pub unlisted : List ℕ → LexKind
unlisted rest = if begins (nat_le 128) rest then NotAscii else UnknownSign

abbrev pub Faulty : Language → Flaw → ℕ → List ℕ → Type 0
Faulty L flaw last rest = IsFlawed L flaw last rest ⊎ (IsFormless L last rest × (flaw ≡ at_front (unlisted rest)))

abbrev pub end_token : ℕ → Token
end_token at = record { sign = End; at = at; end = at }

-- tokens with blank space alone between them, up to the text's end
pub record IsCut (L : Language) (text : List ℕ) (tokens : List Token) : Type 0 where
  pub before : List Token
  pub to : ℕ
  pub front : Front L text before 0 to
  pub whole : length text ≡ next_place L text to
  pub ends : tokens ≡ before ++ end_token (length text) ∷ []

-- tokens with blank space alone between them, and then what is no token
pub record IsFaultAt (L : Language) (text : List ℕ) (kind : LexKind) (at : ℕ) : Type 0 where
  pub before : List Token
  pub to : ℕ
  pub front : Front L text before 0 to
  pub past : ℕ
  pub place : at ≡ next_place L text to + past
  pub faulty : Faulty L (record { kind = kind; past = past }) (byte_before text (next_place L text to)) (drop (next_place L text to) text)

-- out of memory says nothing of the text
abbrev pub Refuses : Language → List ℕ → Faulted LexKind → Type 0
Refuses L text NoMemory = Unit {0}
Refuses L text (At kind at) = IsFaultAt L text kind at
