-- What the lexer refuses, and what the tokens are refused for, the text is refused for.
use Rattle.tdl_script.proofs.TokenLoop.{within_tokens, refused_at, lexer_refused}
use Rattle.tdl_script.proofs.lines.read_whole.Goals as goal

pub returns-in-Err : goal.returns-in-Err
returns-in-Err c = record {
  whole = tt;
  refused = lexer_refused c.args.goal c.args.text.now c.in-Err.fault c.lexer_fault.result c.requires.short c.in-Err.ensures c.lexer_fault.ensures;
}

pub at_byte-requires : goal.at_byte-requires
at_byte-requires c =
    within_tokens c.args.goal c.args.text.now c.in-Ok.tokens c.in-Err-read_tokens.fault c.in-Err-read_tokens.ensures.err

pub returns-clause-refused : goal.returns-clause-refused
returns-clause-refused c =
    refused_at c.args.goal c.args.text.now c.in-Ok.tokens c.in-Err-read_tokens.fault c.at_byte.result c.in-Err-read_tokens.ensures.err
    c.at_byte.ensures
