use Rattle.std.proofs.Common.{refl, sym, ◌∙◌}
use Rattle.tdl_command.specs.View.{expr_of}
use Rattle.tdl_line_reader.proofs.Answering.{answers_by}
use Rattle.tdl_line_reader.proofs.OperandFacts.{operand_is, other_is}
use Rattle.tdl_line_reader.proofs.reader.LineTokenReader.operand.Goals as goal

pub returns-then-has_constant : goal.returns-then-has_constant
returns-then-has_constant c = λ t. answers_by _ _ _ _ _ (c.constant.ensures t)
    (operand_is c.args.self.now c.with_pending.new.self (expr_of c.args.operand) (expr_of c.in_ok-expr.expr) c.in_ok-expr.ensures.ok c.in_ok-expr.ensures.stays)

pub returns-else-has_constant : goal.returns-else-has_constant
returns-else-has_constant c = λ t. answers_by _ _ _ _ _ (record { ok = refl; err = tt })
    (operand_is c.args.self.now c.with_pending.new.self (expr_of c.args.operand) (expr_of c.in_ok-expr.expr) c.in_ok-expr.ensures.ok c.in_ok-expr.ensures.stays
    ∙ other_is c.with_pending.new.self (expr_of c.in_ok-expr.expr) (sym c.has_constant.ensures ∙ c.if-has_constant.false))
