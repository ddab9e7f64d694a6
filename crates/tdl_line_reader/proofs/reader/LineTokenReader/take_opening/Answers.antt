use Rattle.std.proofs.Common.{rules, sym, ◌∙◌}
use Rattle.tdl_line_machine.specs.declared.marks.Mark.TheVariants.{Operator}
use Rattle.tdl_line_reader.specs.ReaderView.{core_of, tok_value}
use Rattle.tdl_line_reader.proofs.Answering.{answers_by}
use Rattle.tdl_line_reader.proofs.ExpressionTokens.{marked_opening, section_opening, opening_marked, opening_other}
use Rattle.tdl_line_reader.proofs.ExpressionTokens.{minus_refused, operator_refused}
use Rattle.tdl_line_reader.proofs.reader.LineTokenReader.take_opening.Goals.{in_default-via-in-Mark-Minus+else-has_numbers}
use Rattle.tdl_line_reader.proofs.reader.LineTokenReader.take_opening.Goals.{in_default-via-in-Mark-Operator+else-has_funs}
use Rattle.tdl_line_reader.proofs.reader.LineTokenReader.take_opening.Goals.{in_default-via-in-Mark+in_default, in_default-via-in_default}
use Rattle.tdl_line_reader.proofs.reader.LineTokenReader.take_opening.Goals as goal

pub returns-in-Mark-Operator : goal.returns-in-Mark-Operator
returns-in-Mark-Operator g c = λ readings are. answers_by _ _ _ _ _ (c.begin_section.ensures _)
    ((marked_opening (core_of c.args.self.now) readings c.args.tok.now _ (Operator c.in-Mark-Operator.operator) c.in-Mark-Operator.is
    (rw c.in-Mark-Operator.is at c.in-Mark-Operator.field-0-is)) ∙ section_opening (core_of c.args.self.now)
    (tok_value readings c.args.tok.now) c.in-Mark-Operator.operator (sym c.has_funs.ensures ∙ c.if-has_funs.true))

pub returns-in_default : goal.returns-in_default
returns-in_default g c = λ readings are. elim c.in_default.branch [
  | in_default-via-in-Mark-Minus+else-has_numbers w ↦ answers_by _ _ _ _ _ (c.take_wanted.ensures readings are)
      (minus_refused (core_of c.args.self.now) readings c.args.tok.now _ w.in-Mark-Minus.is (rw w.in-Mark-Minus.is at w.in-Mark-Minus.field-0-is)
      (sym w.has_numbers.ensures ∙ w.if-has_numbers.false))
  | in_default-via-in-Mark-Operator+else-has_funs w ↦ answers_by _ _ _ _ _ (c.take_wanted.ensures readings are)
      (operator_refused (core_of c.args.self.now) readings c.args.tok.now _ w.in-Mark-Operator.operator w.in-Mark-Operator.is
      (rw w.in-Mark-Operator.is at w.in-Mark-Operator.field-0-is) (sym w.has_funs.ensures ∙ w.if-has_funs.false))
  | in_default-via-in-Mark+in_default w ↦ answers_by _ _ _ _ _ (c.take_wanted.ensures readings are)
      (opening_marked (core_of c.args.self.now) readings c.args.tok.now w.in_default.field-0 w.in_default.is (search rules) (search rules))
  | in_default-via-in_default w ↦ answers_by _ _ _ _ _ (c.take_wanted.ensures readings are)
      (opening_other (core_of c.args.self.now) readings c.args.tok.now (search rules) (search rules))
]
