use Rattle.std.proofs.Common.{sym}
use Rattle.tdl_lexer.proofs.bytes.comment_len.Goals as goal

pub returns-then-starts_with : goal.returns-then-starts_with
returns-then-starts_with c = rw (sym c.if-starts_with.ensures.value) c.line_len.ensures
