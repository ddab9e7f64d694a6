-- What is known of a token that the lexer cuts.
--     IsPiece          a token of a text, with its bytes
use Rattle.std.specs.Prelude.{◌≡◌, ℕ, ◌≤◌, List, length, slice_range, IsTrue}
use Rattle.tdl_lexer.specs.declared.signs.Sign.TheVariants as sign
use Rattle.tdl_lexer.specs.declared.signs.Token.{Token}
use Rattle.tdl_mini_grammar.specs.NumberTexts.{fits_number}
use Rattle.tdl_mini_grammar.specs.Texts.{tok_of}
use Rattle.tdl_mini_machine.specs.Readable.{is_readable}

pub record IsPiece (text : List ℕ) (t : Token) : Type 0 where
  pub ordered : t.at ≤ t.end
  pub within : t.end ≤ length text
  pub number : t.sign ≡ sign.Number → IsTrue (fits_number (slice_range text t.at t.end))
  pub readable : IsTrue (is_readable (tok_of text t))
