use Rattle.std.proofs.Common.{rules}
use Rattle.tdl_command.specs.View.{expr_of}
use Rattle.tdl_line_machine.specs.Machine.Expressions.{applied, next_hole}
use Rattle.tdl_line_reader.specs.ReaderView.{core_of, level_of}
use Rattle.tdl_line_reader.specs.declared.stages.Hole.TheVariants as hole
use Rattle.tdl_line_reader.specs.declared.stages.Spot.TheVariants as spot
use Rattle.tdl_line_reader.specs.declared.stages.Stage.TheVariants as stage
use Rattle.tdl_line_reader.proofs.ClosedHoles.{after_applied, closed_refused, list_goes_on, next_refused}
use Rattle.tdl_line_reader.proofs.ReaderFacts.{opened_again}
use Rattle.tdl_line_reader.proofs.reader.LineTokenReader.next_expr.Goals.{in_default-via-in-Some+in_default, in_default-via-in_default}
use Rattle.tdl_line_reader.proofs.reader.LineTokenReader.next_expr.Goals as goal

pub returns-in_ok-push-in-Some-List-2 : goal.returns-in_ok-push-in-Some-List-2
returns-in_ok-push-in-Some-List-2 c = λ t.
    list_goes_on c.args.self.now c.applied.new.self c.close.new.self t c.close.result c.in-Some-List.shape c.in-Some-List.exprs c.push.new.self c.args.expr
    c.in_ok-expr.expr _ _ c.in_ok-expr.ensures.stays c.in_ok-expr.ensures.ok c.close.ensures (search rules) c.in_ok-push-in-Some-List.ensures.items
    (opened_again c.close.new.self c.push-in-Some-List.new.self (hole.List c.in-Some-List.shape c.push.new.self) _ (stage.Wanting spot.First)
    c.in_ok-push-in-Some-List-2.ensures.ok t)

pub returns-in_default : goal.returns-in_default
returns-in_default c = λ t.
    let e = applied (level_of c.args.self.now.level.items) (expr_of c.args.expr) in
    after_applied c.args.self.now c.applied.new.self t (next_hole t c.args.self.now.depth e) _ _ c.in_ok-expr.ensures.stays
    (closed_refused c.applied.new.self c.close.new.self c.close.result t (next_hole t c.args.self.now.depth e) c.close.ensures (elim c.in_default.branch [
      | in_default-via-in-Some+in_default w ↦ next_refused t c.args.self.now.depth e (core_of c.close.new.self) c.close.result (search rules)
      | in_default-via-in_default w ↦ next_refused t c.args.self.now.depth e (core_of c.close.new.self) c.close.result (search rules)
    ]))
