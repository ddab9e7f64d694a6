use Rattle.std.proofs.Common.{rules}
use Rattle.tdl_command.specs.View.{expr_of}
use Rattle.tdl_line_machine.specs.Machine.Expressions.{applied, list_hole}
use Rattle.tdl_line_reader.specs.ReaderView.{core_of, level_of}
use Rattle.tdl_line_reader.proofs.ClosedHoles.{after_applied, closed_refused, list_ends, list_refused}
use Rattle.tdl_line_reader.proofs.reader.LineTokenReader.close_list.Goals.{in_default-via-in-Some+in_default, in_default-via-in_default}
use Rattle.tdl_line_reader.proofs.reader.LineTokenReader.close_list.Goals as goal

pub returns-in_ok-push-in-Some-List : goal.returns-in_ok-push-in-Some-List
returns-in_ok-push-in-Some-List c = λ t.
    list_ends c.args.self.now c.applied.new.self c.close.new.self t c.close.result c.in-Some-List.shape c.in-Some-List.exprs c.push.new.self c.args.expr
    c.in_ok-expr.expr _ _ c.in_ok-expr.ensures.stays c.in_ok-expr.ensures.ok c.close.ensures (search rules) c.in_ok-push-in-Some-List.ensures.items
    (c.operand.ensures t)

pub returns-in_default : goal.returns-in_default
returns-in_default c = λ t.
    let e = applied (level_of c.args.self.now.level.items) (expr_of c.args.expr) in
    after_applied c.args.self.now c.applied.new.self t (list_hole t e) _ _ c.in_ok-expr.ensures.stays
    (closed_refused c.applied.new.self c.close.new.self c.close.result t (list_hole t e) c.close.ensures (elim c.in_default.branch [
      | in_default-via-in-Some+in_default w ↦ list_refused t e (core_of c.close.new.self) c.close.result (search rules)
      | in_default-via-in_default w ↦ list_refused t e (core_of c.close.new.self) c.close.result (search rules)
    ]))
