use Rattle.std.proofs.Common.{◌≤◌, ◌∙◌, sym, arith}
use Rattle.tdl_drill.proofs.Left.{finish_left, next_left, ticks, ticks_not}
use Rattle.tdl_drill.proofs.draws.DrillLines.next_line.Goals.{else-kind-eq0, then-kind-eq0}
use Rattle.tdl_drill.proofs.draws.DrillLines.next_line.Goals as goal

pub returns-then-self-eq0-2-clause-some : goal.returns-then-self-eq0-2-clause-some
returns-then-self-eq0-2-clause-some c =
    sym c.self.view_is ∙ finish_left c.self.inside.number c.self.inside.place c.self.inside.left c.of.result
    (omega (arith, c.if-self-eq0.false, c.if-self-eq0-2.true)) c.of.ensures

pub returns-clause-some : goal.returns-clause-some
returns-clause-some c =
    let number = c.self.inside.number in
    let place = c.self.inside.place in
    let left = c.self.inside.left in
    let drawn = c.next_number-self-inside.result in
    let some : 2 ≤ left = omega (arith, c.if-self-eq0.false, c.if-self-eq0-2.false) in
    elim c.if-kind-eq0.branch [
      | then-kind-eq0 w ↦ rw w.self-inside-is (sym c.self.view_is ∙ next_left number place left drawn _ c.line_of_kind.result
          some c.next_number-self-inside.ensures.value (ticks drawn place w.if-kind-eq0.true) (rw w.self-inside-is at c.line_of_kind.ensures))
      | else-kind-eq0 w ↦ rw w.self-inside-is (sym c.self.view_is ∙ next_left number place left drawn place c.line_of_kind.result
          some c.next_number-self-inside.ensures.value (ticks_not drawn place w.if-kind-eq0.false) (rw w.self-inside-is at c.line_of_kind.ensures))
    ]
