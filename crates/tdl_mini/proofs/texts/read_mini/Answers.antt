-- What the lexer refuses, and what the tokens are refused for, the text is refused for.
use Rattle.tdl_mini.proofs.TokenLoop.{fault_within, fault_placed, lexer_placed, no_memory}
use Rattle.tdl_mini.proofs.texts.read_mini.Goals as goal

pub returns-in-Err : goal.returns-in-Err
returns-in-Err c =
    let refused = lexer_placed c.args.kind c.args.text.now c.in-Err.fault c.lexer_fault.result c.in-Err.ensures c.lexer_fault.ensures in
    record { text = tt; kind = tt; refused = refused; exact = no_memory c.args.kind c.args.text.now c.lexer_fault.result refused }

pub at_byte-requires : goal.at_byte-requires
at_byte-requires c = fault_within c.args.kind c.args.text.now c.in-Ok.tokens c.in-Err-read_tokens.fault c.in-Err-read_tokens.ensures.err

pub returns-clause-refused : goal.returns-clause-refused
returns-clause-refused c =
    fault_placed c.args.kind c.args.text.now c.in-Ok.tokens c.in-Err-read_tokens.fault c.at_byte.result c.in-Err-read_tokens.ensures.err c.at_byte.ensures

pub returns-clause-exact : goal.returns-clause-exact
returns-clause-exact c =
    no_memory c.args.kind c.args.text.now c.at_byte.result
    (fault_placed c.args.kind c.args.text.now c.in-Ok.tokens c.in-Err-read_tokens.fault c.at_byte.result c.in-Err-read_tokens.ensures.err c.at_byte.ensures)
