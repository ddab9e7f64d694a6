-- The tokens that the reader's stand for.
--     tok_value        the token as the machine sees it
use Rattle.tdl_mini_reader.specs.declared.tokens.Tok.{Tok}
use Rattle.tdl_mini_reader.specs.declared.tokens.Tok.TheVariants as tok
use Rattle.tdl_mini_machine.specs.Tokens as token
use Rattle.tdl_mini_machine.specs.Tokens.{digits, letters, mark, end}

abbrev pub tok_value : Tok → token.Tok
tok_value (tok.Number n text is_count) = digits n text.now is_count
tok_value (tok.Word text is_count) = letters text.now is_count
tok_value (tok.Mark m) = mark m
tok_value tok.End = end
