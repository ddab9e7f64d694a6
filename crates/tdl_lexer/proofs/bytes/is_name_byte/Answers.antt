use Rattle.std.proofs.Common.{ℕ, not, nat_eq, get_or, refl, arith}
use Rattle.tdl_lexer.specs.Bytes.{is_name_byte}
use Rattle.tdl_lexer.specs.declared.bytes.TheConstants.{NAME_BYTES}
use Rattle.tdl_lexer.proofs.Tables.{alike_at}
use Rattle.tdl_lexer.proofs.bytes.is_name_byte.Goals as goal

pub returns : goal.returns
returns c = alike_at (λ (byte : ℕ). not (nat_eq (get_or NAME_BYTES byte 0) 46)) is_name_byte 256 refl c.args.byte (omega arith)
