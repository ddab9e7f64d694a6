use Rattle.std.proofs.Common.{sym, ◌∙◌}
use Rattle.tdl_command.specs.View.{fun_of}
use Rattle.tdl_line_machine.specs.declared.marks.Mark.TheVariants.{CloseRound}
use Rattle.tdl_line_reader.specs.ReaderView.{core_of, tok_value}
use Rattle.tdl_line_reader.proofs.Answering.{answers_by}
use Rattle.tdl_line_reader.proofs.FunTokens.{marked_fun, fun_closes}
use Rattle.tdl_line_reader.proofs.reader.LineTokenReader.take_chained.Goals as goal

pub returns-in-Mark-CloseRound : goal.returns-in-Mark-CloseRound
returns-in-Mark-CloseRound g c = λ readings are.
    let k = core_of c.args.self.now in
    let t = tok_value readings c.args.tok.now in
    answers_by _ _ _ _ _ (c.close_round.ensures _)
    (marked_fun k (fun_of c.args.fun.value) readings c.args.tok.now _ CloseRound c.in-Mark-CloseRound.is
    (rw c.in-Mark-CloseRound.is at c.in-Mark-CloseRound.field-0-is)
    ∙ fun_closes k (fun_of c.args.fun.value) t (sym c.may_close_fun.ensures ∙ c.if-may_close_fun.true))
