use Rattle.std.proofs.Common.{true, false, refl, rules, sym, ◌∙◌}
use Rattle.tdl_line_machine.specs.Machine.Arguments.{above_mark, opened_mark}
use Rattle.tdl_line_reader.specs.ReaderView.{core_of, tok_value}
use Rattle.tdl_line_reader.proofs.Answering.{answers_by}
use Rattle.tdl_line_reader.proofs.ExpressionTokens.{number_opened}
use Rattle.tdl_line_reader.proofs.OtherTokens.{marked}
use Rattle.tdl_line_reader.proofs.reader.LineTokenReader.take_opened.Goals as goal

pub returns-in-Mark-CloseRound : goal.returns-in-Mark-CloseRound
returns-in-Mark-CloseRound g c = λ readings are.
    let r = core_of c.args.self.now in
    let t = tok_value readings c.args.tok.now in
    let next = opened_mark true r t c.args.number c.args.at in
    answers_by _ _ _ _ _ (c.take_above.ensures readings are)
    (marked r next readings c.args.tok.now _ _ c.in-Mark-CloseRound.is refl
    ∙ number_opened r t c.args.number c.args.at c.in-Mark-CloseRound.field-0 (sym c.has_numbers.ensures ∙ c.if-has_numbers.true) (search rules)
    ∙ sym (marked r (above_mark true r t false c.args.number c.args.at) readings c.args.tok.now _ _ c.in-Mark-CloseRound.is refl))
