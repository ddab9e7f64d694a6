use Rattle.std.proofs.Common.{ap, sym, ◌∙◌}
use Rattle.tdl_command.specs.declared.tree.Expr.{Expr}
use Rattle.tdl_command.specs.Tree as tree
use Rattle.tdl_command.specs.View.{expr_of}
use Rattle.tdl_line_machine.specs.Machine.Calls.{made}
use Rattle.tdl_line_machine.specs.Machine.Open.{popped}
use Rattle.tdl_line_reader.specs.ReaderView.{core_of, frame_of, frames_of, spot_of}
use Rattle.tdl_line_reader.proofs.Answering.{answers_by}
use Rattle.tdl_line_reader.proofs.OperandFacts.{constant_is, never_none, never_other}
use Rattle.tdl_line_reader.proofs.reader.LineTokenReader.constant.Goals as goal

pub returns : goal.returns
returns c = λ t. answers_by _ _ _ _ _ (c.made.ensures t)
    (constant_is c.args.self.now c.pop.new.self.items c.in-Some.field-0 c.in-Constant.spot (expr_of c.args.expr) c.in-Some.ensures.items c.in-Constant.is
    ∙ ap
    (λ (e : Expr).
    made (popped (core_of c.args.self.now) (frame_of c.in-Some.field-0) (frames_of c.pop.new.self.items)) (spot_of c.in-Constant.spot)
    (tree.const (expr_of e)))
    (sym c.in_ok-new-in-Constant.ensures.ok))

pub unreachable-requires : goal.unreachable-requires
unreachable-requires c =
    absurd (never_other c.args.self.now.frames.items c.pop.new.self.items c.in-Some.field-0 c.in-Some.ensures.items c.in_default.not-Constant c.requires)

pub unreachable-requires-in-None : goal.unreachable-requires-in-None
unreachable-requires-in-None c = absurd (never_none c.args.self.now.frames.items (sym c.args.self.now.frames.ok.0 ∙ c.in-None.ensures.cases.0) c.requires)
