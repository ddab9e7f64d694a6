use Rattle.std.proofs.Common.{true}
use Rattle.tdl_line_machine.specs.declared.marks.Mark.TheVariants.{CloseRound}
use Rattle.tdl_line_machine.specs.Machine.Arguments.{above_mark}
use Rattle.tdl_line_reader.specs.ReaderView.{core_of, tok_value}
use Rattle.tdl_line_reader.proofs.Answering.{answers_by}
use Rattle.tdl_line_reader.proofs.OtherTokens.{marked}
use Rattle.tdl_line_reader.proofs.reader.LineTokenReader.take_above.Goals as goal

pub returns-in-Mark-CloseRound : goal.returns-in-Mark-CloseRound
returns-in-Mark-CloseRound g c = λ readings are.
    let t = tok_value readings c.args.tok.now in
    let old = core_of c.args.self.now in
    answers_by _ _ _ _ _ (c.close_number.ensures _)
    (marked old (above_mark true old t c.args.is_negative c.args.number c.args.at) readings c.args.tok.now _ CloseRound c.in-Mark-CloseRound.is
    (rw c.in-Mark-CloseRound.is at c.in-Mark-CloseRound.field-0-is))
