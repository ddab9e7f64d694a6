use Rattle.std.proofs.Common.{rules, refl, sym, ap, ◌∙◌}
use Rattle.tdl_line_machine.specs.Machine.Lists.{empty_hole}
use Rattle.tdl_line_machine.specs.Machine.Expressions.{operand}
use Rattle.tdl_line_machine.specs.declared.marks.Mark.TheVariants.{CloseSquare}
use Rattle.tdl_line_reader.specs.ReaderView.{core_of, tok_value}
use Rattle.tdl_line_reader.proofs.Answering.{answers_by}
use Rattle.tdl_line_reader.proofs.OtherTokens.{list_mark_other, at_list_other}
use Rattle.tdl_line_reader.proofs.ClosedHoles.{closed_by}
use Rattle.tdl_line_reader.proofs.ExpressionTokens.{marked_list}
use Rattle.tdl_line_reader.proofs.ListViews.{list_is}
use Rattle.tdl_line_reader.specs.declared.stages.Hole.TheVariants as hole
use Rattle.tdl_line_reader.proofs.reader.LineTokenReader.take_list_open.Goals.{in_default-via-in-Mark+in_default, in_default-via-in_default}
use Rattle.tdl_line_reader.proofs.reader.LineTokenReader.take_list_open.Goals as goal

pub returns-in-Some-List : goal.returns-in-Some-List
returns-in-Some-List g c = λ readings are. answers_by _ _ _ _ _ (closed_by c.args.self.now c.close.new.self c.close.result
    (hole.List c.in-Some-List.shape c.in-Some-List.exprs) (tok_value readings c.args.tok.now) (empty_hole (tok_value readings c.args.tok.now)) _ _ _
    c.close.ensures (search rules) (ap (operand (core_of c.close.new.self)) (sym (list_is c.in-Some-List.shape c.in-Some-List.exprs))) (c.operand.ensures _))
    (marked_list (core_of c.args.self.now) readings c.args.tok.now _ CloseSquare c.in-Mark-CloseSquare.is
    (rw c.in-Mark-CloseSquare.is at c.in-Mark-CloseSquare.field-0-is))

pub returns : goal.returns
returns g c = λ readings are. elim c.in_default.branch [
  | in_default-via-in-Mark+in_default w ↦ answers_by _ _ _ _ _ (c.take_wanted.ensures readings are)
      (marked_list (core_of c.args.self.now) readings c.args.tok.now _ _ w.in_default.is refl ∙ list_mark_other (core_of c.args.self.now)
      (tok_value readings c.args.tok.now) w.in_default.field-0 (search rules))
  | in_default-via-in_default w ↦ answers_by _ _ _ _ _ (c.take_wanted.ensures readings are) (at_list_other (core_of c.args.self.now) readings c.args.tok.now
      (search rules))
]
