use Rattle.std.proofs.Common.{sym, ◌∙◌}
use Rattle.tdl_mini_tree.specs.declared.faults.MiniKind.TheVariants.{BadEuclid}
use Rattle.tdl_command.specs.View.{count_of}
use Rattle.tdl_line_machine.specs.declared.faults.LineKind.TheVariants.{Mini}
use Rattle.tdl_line_machine.specs.Machine.Calls.{has_rhythms_with}
use Rattle.tdl_line_reader.specs.ReaderView.{core_of, count_call_of, spot_of, tok_value}
use Rattle.tdl_line_reader.proofs.Answering.{answers_by, stops_by, handed_on, obeyed, failing}
use Rattle.tdl_line_reader.proofs.reader.LineTokenReader.take_count.Goals as goal

pub returns-in_err-count : goal.returns-in_err-count
returns-in_err-count g c = λ readings are. handed_on _ _ _ _ _ c.from_residual.ensures.1
    (c.in_err-count.ensures.err (spot_of c.args.spot) (count_call_of c.args.call) readings are)

pub returns-in_err-check : goal.returns-in_err-check
returns-in_err-check g c = λ readings are. handed_on _ _ _ _ _ c.from_residual-in_err-check.ensures.1 (stops_by _ _ _
    (failing c.args.self.now (Mini BadEuclid) (has_rhythms_with (count_call_of c.args.call) (count_of c.in-Some.count)) _ _
    (rw c.has_rhythms.ensures at c.in_err-check.ensures.err))
    (rw c.in-Some.is at (c.in_ok-count.ensures.ok readings are (spot_of c.args.spot) (count_call_of c.args.call))))

pub returns : goal.returns
returns g c = λ readings are. answers_by _ _ _ _ _
    (obeyed (core_of c.args.self.now) (Mini BadEuclid) (has_rhythms_with (count_call_of c.args.call) (count_of c.in-Some.count)) _ _ _ _
    (rw c.with.ensures at (c.called.ensures (tok_value readings c.args.tok.now))) (sym c.has_rhythms.ensures ∙ c.in_ok-check.ensures.ok))
    (rw c.in-Some.is at (c.in_ok-count.ensures.ok readings are (spot_of c.args.spot) (count_call_of c.args.call)))
