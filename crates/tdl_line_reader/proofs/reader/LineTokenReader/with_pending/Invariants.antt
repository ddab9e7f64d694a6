use Rattle.std.proofs.Common.{◌≡◌, length}
use Rattle.tdl_command.specs.View.{expr_of}
use Rattle.tdl_line_machine.specs.Machine.Expressions.{with_pending}
use Rattle.tdl_line_reader.specs.ReaderView.{KeepsOpen, level_of}
use Rattle.tdl_line_reader.proofs.reader.LineTokenReader.with_pending.Given as goal

abbrev pub invariant-loop-pending : goal.invariant-loop-pending
invariant-loop-pending l = record {
  same : with_pending (level_of l.self.level.items) (expr_of l.expr) ≡ with_pending (level_of l.fn.self.level.items) (expr_of l.fn.operand);
  kept : KeepsOpen l.fn.self l.self;
}

abbrev pub decreases-loop-pending : goal.decreases-loop-pending
decreases-loop-pending l = length l.self.level.items
