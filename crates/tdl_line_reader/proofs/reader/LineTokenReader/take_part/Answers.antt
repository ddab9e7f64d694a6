use Rattle.std.proofs.Common.{true}
use Rattle.tdl_line_machine.specs.Machine.Lists.{part_mark}
use Rattle.tdl_line_machine.specs.declared.marks.Mark.TheVariants.{OpenRound}
use Rattle.tdl_line_reader.specs.ReaderView.{core_of, tok_value}
use Rattle.tdl_line_reader.proofs.Answering.{answers_by}
use Rattle.tdl_line_reader.proofs.OtherTokens.{marked}
use Rattle.tdl_line_reader.proofs.reader.LineTokenReader.take_part.Goals as goal

pub returns-in-Mark-OpenRound : goal.returns-in-Mark-OpenRound
returns-in-Mark-OpenRound g c = λ readings are. answers_by _ _ _ _ _ (c.open.ensures _)
    (marked (core_of c.args.self.now) (part_mark true (core_of c.args.self.now)
    (tok_value readings c.args.tok.now)) readings c.args.tok.now _ OpenRound c.in-Mark-OpenRound.is
    (rw c.in-Mark-OpenRound.is at c.in-Mark-OpenRound.field-0-is))
