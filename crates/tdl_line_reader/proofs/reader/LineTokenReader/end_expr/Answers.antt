use Rattle.std.proofs.Common.{arith}
use Rattle.tdl_command.specs.View.{expr_of}
use Rattle.tdl_line_machine.specs.Machine.Expressions.{applied}
use Rattle.tdl_line_reader.specs.ReaderView.{core_of, level_of}
use Rattle.tdl_line_reader.proofs.Answering.{refuses}
use Rattle.tdl_line_reader.proofs.ExpressionTokens.{ends_open}
use Rattle.tdl_line_reader.proofs.reader.LineTokenReader.end_expr.Goals as goal

pub returns-then-not-is_empty : goal.returns-then-not-is_empty
returns-then-not-is_empty c = λ t.
    let frames = c.args.self.now.frames in
    refuses _ t _ (ends_open (core_of c.args.self.now) t (applied (level_of c.args.self.now.level.items) (expr_of c.args.expr)) frames.items frames.len
    c.is_empty.result (omega (arith, frames.ok.0)) c.is_empty.ensures c.if-not-is_empty.true)
