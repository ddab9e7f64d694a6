-- The reader's tokens are those of the grammar.
--     plain_tok     a token that is no quoted text is, whatever quoted texts are
use Rattle.std.proofs.Common.{◌≡◌}
use Rattle.tdl_line_machine.specs.Tokens.{Tok}
use Rattle.tdl_line_reader.specs.declared.tokens.Tok.{Tok as TokValue}
use Rattle.tdl_line_reader.specs.ReaderView.{IsTokOf, tok_value}
use Rattle.tdl_line_reader.proofs.TextsKept.{Readings, some_readings}
use Rattle.tdl_mini_grammar.proofs.Readings.{some_reading}
use Rattle.tdl_script.specs.declared.quoted.QuotedText.{QuotedText}
use Rattle.tdl_script.specs.inside.QuotedView.{text_reads}

pub readings_of : (r : TokValue QuotedText) → Readings text_reads r
readings_of r = some_readings text_reads (λ kind quoted. some_reading kind quoted.bytes.now) r

pub plain_tok : (r : TokValue QuotedText) (t : Tok) → tok_value (readings_of r).0 r ≡ t → IsTokOf text_reads t r
plain_tok r t is = let some = readings_of r in (some.0, some.1, is)
