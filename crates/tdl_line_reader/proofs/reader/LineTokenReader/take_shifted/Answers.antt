use Rattle.std.proofs.Common.{rules, sym, ◌∙◌}
use Rattle.tdl_command.specs.View.{ratio_of}
use Rattle.tdl_line_reader.specs.ReaderView.{core_of}
use Rattle.tdl_line_reader.proofs.Answering.{answers_by}
use Rattle.tdl_line_reader.proofs.ShiftTokens.{may_not_close, other_mark, other_token, shift_closes, shift_taken}
use Rattle.tdl_line_reader.proofs.reader.LineTokenReader.take_shifted.Goals.{in_default-via-in-Mark-CloseRound+else-may_close_fun}
use Rattle.tdl_line_reader.proofs.reader.LineTokenReader.take_shifted.Goals.{in_default-via-in-Mark+in_default, in_default-via-in_default}
use Rattle.tdl_line_reader.proofs.reader.LineTokenReader.take_shifted.Goals as goal

pub returns-in-Mark-CloseRound : goal.returns-in-Mark-CloseRound
returns-in-Mark-CloseRound g c = λ readings are. answers_by _ _ _ _ _ (c.close_round.ensures _)
    (shift_closes (core_of c.args.self.now) (ratio_of c.args.by) c.args.way readings c.args.tok.now _ c.in-Mark-CloseRound.is
    (rw c.in-Mark-CloseRound.is at c.in-Mark-CloseRound.field-0-is) (sym c.may_close_fun.ensures ∙ c.if-may_close_fun.true))

pub returns-in_ok-push-in_default : goal.returns-in_ok-push-in_default
returns-in_ok-push-in_default g c = λ readings are.
    let r = c.args.self.now in
    let may = sym c.has_exprs.ensures ∙ c.if-has_exprs.true in
    elim c.in_default.branch [
      | in_default-via-in-Mark-CloseRound+else-may_close_fun w ↦ answers_by _ _ _ _ _ (c.take_wanted.ensures readings are)
          (shift_taken r c.push.new.self.items c.args.by c.args.way readings c.args.tok.now c.in_ok-push-in_default.ensures.items may
          (may_not_close (core_of r) c.args.tok.now _ w.may_close_fun.ensures w.if-may_close_fun.false))
      | in_default-via-in-Mark+in_default w ↦ answers_by _ _ _ _ _ (c.take_wanted.ensures readings are)
          (shift_taken r c.push.new.self.items c.args.by c.args.way readings c.args.tok.now c.in_ok-push-in_default.ensures.items may
          (other_mark (core_of r) c.args.tok.now w.in_default.field-0 w.in_default.is (search rules)))
      | in_default-via-in_default w ↦ answers_by _ _ _ _ _ (c.take_wanted.ensures readings are)
          (shift_taken r c.push.new.self.items c.args.by c.args.way readings c.args.tok.now c.in_ok-push-in_default.ensures.items may
          (other_token (core_of r) c.args.tok.now (search rules)))
    ]
