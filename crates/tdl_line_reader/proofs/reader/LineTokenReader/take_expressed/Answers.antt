use Rattle.std.proofs.Common.{◌∷◌, refl, sym, ap, ◌∙◌}
use Rattle.tdl_command.specs.declared.tree.Expr.{Expr}
use Rattle.tdl_command.specs.View.{expr_of}
use Rattle.tdl_line_machine.specs.Machine.States.{going, at_operand, joins, wanting, with_level}
use Rattle.tdl_line_machine.specs.declared.marks.Mark.TheVariants.{CloseRound, CloseSquare, Comma, Operator}
use Rattle.tdl_line_reader.specs.ReaderView.{core_of, level_of}
use Rattle.tdl_line_reader.proofs.Answering.{answers_by}
use Rattle.tdl_line_reader.proofs.ReaderFacts.{pended_is}
use Rattle.tdl_line_reader.proofs.ExpressionTokens.{marked_expr, ended_expr}
use Rattle.tdl_line_reader.specs.declared.stages.Pending.TheVariants as pending
use Rattle.tdl_line_reader.proofs.reader.LineTokenReader.take_expressed.Goals as goal

pub returns-in_ok-push-in-Mark-Operator : goal.returns-in_ok-push-in-Mark-Operator
returns-in_ok-push-in-Mark-Operator g c = λ readings are. answers_by _ (going (with_level (core_of c.args.self.now) (level_of c.push.new.self.items))
    (wanting at_operand)) _ _ _ (record { ok = refl; err = tt })
    ((marked_expr (core_of c.args.self.now) (expr_of c.args.expr) readings c.args.tok.now _ (Operator c.in-Mark-Operator.operator) c.in-Mark-Operator.is
    (rw c.in-Mark-Operator.is at c.in-Mark-Operator.field-0-is))
    ∙ ap (λ (e : Expr). going (with_level (core_of c.args.self.now) (joins (expr_of e) c.in-Mark-Operator.operator ∷ level_of c.args.self.now.level.items))
    (wanting at_operand)) (sym c.in_ok-left-in-Mark-Operator.ensures.ok)
    ∙ pended_is c.args.self.now c.push.new.self.items (pending.Joined c.in_ok-left-in-Mark-Operator.left c.in-Mark-Operator.operator)
    (wanting at_operand) c.in_ok-push-in-Mark-Operator.ensures.items)

pub returns-in-Mark-CloseRound : goal.returns-in-Mark-CloseRound
returns-in-Mark-CloseRound g c = λ readings are. answers_by _ _ _ _ _ (c.close_expr.ensures _)
    (marked_expr (core_of c.args.self.now) (expr_of c.args.expr) readings c.args.tok.now _ CloseRound c.in-Mark-CloseRound.is
    (rw c.in-Mark-CloseRound.is at c.in-Mark-CloseRound.field-0-is))

pub returns-in-Mark-CloseSquare : goal.returns-in-Mark-CloseSquare
returns-in-Mark-CloseSquare g c = λ readings are. answers_by _ _ _ _ _ (c.close_list.ensures _)
    (marked_expr (core_of c.args.self.now) (expr_of c.args.expr) readings c.args.tok.now _ CloseSquare c.in-Mark-CloseSquare.is
    (rw c.in-Mark-CloseSquare.is at c.in-Mark-CloseSquare.field-0-is))

pub returns-in-Mark-Comma : goal.returns-in-Mark-Comma
returns-in-Mark-Comma g c = λ readings are. answers_by _ _ _ _ _ (c.next_expr.ensures _)
    (marked_expr (core_of c.args.self.now) (expr_of c.args.expr) readings c.args.tok.now _ Comma c.in-Mark-Comma.is
    (rw c.in-Mark-Comma.is at c.in-Mark-Comma.field-0-is))

pub returns-in-End : goal.returns-in-End
returns-in-End g c = λ readings are. answers_by _ _ _ _ _ (c.end_expr.ensures _)
    (ended_expr (core_of c.args.self.now) (expr_of c.args.expr) readings c.args.tok.now c.in-End.is)
