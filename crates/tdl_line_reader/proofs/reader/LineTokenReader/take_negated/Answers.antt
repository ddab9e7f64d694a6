use Rattle.tdl_line_machine.specs.Machine.Lines.{negated_mark}
use Rattle.tdl_line_machine.specs.declared.marks.Mark.TheVariants.{CloseRound}
use Rattle.tdl_line_reader.specs.ReaderView.{core_of, tok_value}
use Rattle.tdl_line_reader.proofs.Answering.{answers_by}
use Rattle.tdl_line_reader.proofs.OtherTokens.{marked}
use Rattle.tdl_line_reader.proofs.reader.LineTokenReader.take_negated.Goals as goal

pub returns-in-Mark-CloseRound : goal.returns-in-Mark-CloseRound
returns-in-Mark-CloseRound g c = λ readings are.
    let old = core_of c.args.self.now in
    answers_by _ _ _ _ _ (c.close_setting.ensures _)
    (marked old (negated_mark old (tok_value readings c.args.tok.now) c.args.number) readings c.args.tok.now _ CloseRound c.in-Mark-CloseRound.is
    (rw c.in-Mark-CloseRound.is at c.in-Mark-CloseRound.field-0-is))
