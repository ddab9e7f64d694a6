use Rattle.tdl_line_machine.specs.Machine.Lists.{part_read_mark}
use Rattle.tdl_line_machine.specs.declared.marks.Mark.TheVariants.{CloseSquare}
use Rattle.tdl_line_reader.specs.ReaderView.{core_of, tok_value}
use Rattle.tdl_line_reader.proofs.Answering.{answers_by}
use Rattle.tdl_line_reader.proofs.OtherTokens.{marked}
use Rattle.tdl_line_reader.proofs.reader.LineTokenReader.take_part_read.Goals as goal

pub returns-in-Mark-CloseSquare : goal.returns-in-Mark-CloseSquare
returns-in-Mark-CloseSquare g c = λ readings are. answers_by _ _ _ _ _ (c.close_parts.ensures _)
    (marked (core_of c.args.self.now) (part_read_mark (core_of c.args.self.now)
    (tok_value readings c.args.tok.now)) readings c.args.tok.now _ CloseSquare c.in-Mark-CloseSquare.is
    (rw c.in-Mark-CloseSquare.is at c.in-Mark-CloseSquare.field-0-is))
