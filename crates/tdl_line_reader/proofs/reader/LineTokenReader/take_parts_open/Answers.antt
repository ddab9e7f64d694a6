use Rattle.std.proofs.Common.{rules, true, refl, sym, ◌∙◌}
use Rattle.tdl_line_machine.specs.Machine.Lists.{part_mark, parts_mark}
use Rattle.tdl_line_machine.specs.declared.marks.Mark.TheVariants.{CloseSquare}
use Rattle.tdl_line_reader.specs.ReaderView.{core_of, tok_value}
use Rattle.tdl_line_reader.proofs.Answering.{answers_by}
use Rattle.tdl_line_reader.proofs.OtherTokens.{parts_mark_other, marked, at_mark_other}
use Rattle.tdl_line_reader.proofs.reader.LineTokenReader.take_parts_open.Goals.{in_default-via-in-Mark+in_default, in_default-via-in_default}
use Rattle.tdl_line_reader.proofs.reader.LineTokenReader.take_parts_open.Goals as goal

pub returns-in-Mark-CloseSquare : goal.returns-in-Mark-CloseSquare
returns-in-Mark-CloseSquare g c = λ readings are. answers_by _ _ _ _ _ (c.close_parts.ensures _)
    (marked (core_of c.args.self.now) (parts_mark true (core_of c.args.self.now)
    (tok_value readings c.args.tok.now)) readings c.args.tok.now _ CloseSquare c.in-Mark-CloseSquare.is
    (rw c.in-Mark-CloseSquare.is at c.in-Mark-CloseSquare.field-0-is))

pub returns-in_default : goal.returns-in_default
returns-in_default g c = λ readings are. elim c.in_default.branch [
  | in_default-via-in-Mark+in_default w ↦ answers_by _ _ _ _ _ (c.take_part.ensures readings are)
      (marked (core_of c.args.self.now) (parts_mark true (core_of c.args.self.now)
      (tok_value readings c.args.tok.now)) readings c.args.tok.now _ _ w.in_default.is refl ∙ parts_mark_other (core_of c.args.self.now)
      (tok_value readings c.args.tok.now) w.in_default.field-0 (search rules)
      ∙ sym (marked (core_of c.args.self.now) (part_mark true (core_of c.args.self.now)
      (tok_value readings c.args.tok.now)) readings c.args.tok.now _ _ w.in_default.is refl))
  | in_default-via-in_default w ↦ answers_by _ _ _ _ _ (c.take_part.ensures readings are)
      (at_mark_other (core_of c.args.self.now) (parts_mark true (core_of c.args.self.now) (tok_value readings c.args.tok.now)) readings c.args.tok.now
      (search rules) ∙ sym (at_mark_other (core_of c.args.self.now) (part_mark true
      (core_of c.args.self.now) (tok_value readings c.args.tok.now)) readings c.args.tok.now (search rules)))
]
