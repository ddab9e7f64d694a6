use Rattle.std.proofs.Common.{rules, ap}
use Rattle.tdl_command.specs.declared.tree.Expr.{Expr}
use Rattle.tdl_command.specs.Tree as tree
use Rattle.tdl_command.specs.View.{expr_of}
use Rattle.tdl_line_reader.specs.ReaderView.{core_of}
use Rattle.tdl_line_reader.proofs.ClosedExprs.{ends_alone, ends_nothing, ends_part, ends_section, expr_refused, round_ends}
use Rattle.tdl_line_reader.proofs.reader.LineTokenReader.close_expr.Goals.{in_default-via-in-Some+in-Bracketed+in_default, in_default-via-in-Some+in_default}
use Rattle.tdl_line_reader.proofs.reader.LineTokenReader.close_expr.Goals.{in_default-via-in_default}
use Rattle.tdl_line_reader.proofs.reader.LineTokenReader.close_expr.Goals as goal

pub returns-in_ok-new-in-Some-Bracketed-Anything : goal.returns-in_ok-new-in-Some-Bracketed-Anything
returns-in_ok-new-in-Some-Bracketed-Anything c = λ t.
    let e = c.in_ok-expr.expr in
    let r = c.in-Some-Bracketed-Anything.field-0-0 in
    ends_alone c.args.self.now c.applied.new.self c.close.new.self t c.close.result r c.args.expr e _ _ _
    c.in_ok-expr.ensures.stays c.in_ok-expr.ensures.ok c.close.ensures (search rules)
    (round_ends t (expr_of e) (core_of c.close.new.self) r (search rules) (search rules) (search rules))
    (ap (λ (x : Expr). tree.inside (expr_of x)) c.in_ok-new-in-Some-Bracketed-Anything.ensures.ok) (c.operand.ensures t)

pub returns-in_ok-new-in-Some-Section : goal.returns-in_ok-new-in-Some-Section
returns-in_ok-new-in-Some-Section c = λ t.
    let e = c.in_ok-expr.expr in
    ends_section c.args.self.now c.applied.new.self c.close.new.self t c.close.result c.in-Some-Section.round c.in-Some-Section.operator c.args.expr e _ _ _
    c.in_ok-expr.ensures.stays c.in_ok-expr.ensures.ok c.close.ensures (search rules)
    (ap (λ (x : Expr). tree.section c.in-Some-Section.operator (expr_of x)) c.in_ok-new-in-Some-Section.ensures.ok) (c.paren.ensures t)

pub returns-in-Some-Weighed : goal.returns-in-Some-Weighed
returns-in-Some-Weighed c = λ t.
    ends_part c.args.self.now c.applied.new.self c.close.new.self t c.close.result c.in-Some-Weighed.weight c.args.expr c.in_ok-expr.expr _ _
    c.in_ok-expr.ensures.stays c.in_ok-expr.ensures.ok c.close.ensures (search rules) (c.add_part.ensures t)

pub returns-in_default : goal.returns-in_default
returns-in_default c = λ t.
    let e = c.in_ok-expr.expr in
    let o = c.close.result in
    ends_nothing c.args.self.now c.applied.new.self c.close.new.self t o c.args.expr e
    c.in_ok-expr.ensures.stays c.in_ok-expr.ensures.ok c.close.ensures (elim c.in_default.branch [
      | in_default-via-in-Some+in-Bracketed+in_default w ↦
          expr_refused t (expr_of e) (core_of c.close.new.self) o (search rules) (search rules) (search rules) (search rules)
      | in_default-via-in-Some+in_default w ↦
          expr_refused t (expr_of e) (core_of c.close.new.self) o (search rules) (search rules) (search rules) (search rules)
      | in_default-via-in_default w ↦ expr_refused t (expr_of e) (core_of c.close.new.self) o (search rules) (search rules) (search rules) (search rules)
    ])
