-- What a language of tokens is.
--     Flaw              why a form is no token, and how many of its bytes stand before the fault
--     at_front          the flaw of this kind at the first byte
--     Language          the forms of a language, where they stand, and what is blank between them
use Rattle.std.specs.Prelude.{ℕ, Option, List}
use Rattle.tdl_lexer.specs.declared.signs.Sign.{Sign}
use Rattle.tdl_lexer.specs.declared.signs.LexKind.{LexKind}
use Rattle.tdl_lexer.specs.declared.lexemes.Flaw.{Flaw}

abbrev pub at_front : LexKind → Flaw
at_front kind = record { kind = kind; past = 0 }

pub record Language : Type 1 where
  pub Form : Type 0
  -- the bytes of a form
  pub spell : Form → List ℕ
  pub sign : Form → Sign
  -- a form stands after a byte and before the rest of a text
  pub Stands : Form → ℕ → List ℕ → Type 0
  -- why a form that stands before the rest of a text is no token there
  pub flaw : Form → List ℕ → Option Flaw
  -- the blank space that a text begins with
  pub blank : List ℕ → List ℕ
