use Rattle.tdl_notes.proofs.OneMore.{due_before, none_before}
use Rattle.tdl_notes.proofs.ends.pop_due.Goals as goal

pub returns-in-Before-clause-due : goal.returns-in-Before-clause-due
returns-in-Before-clause-due c = due_before c.args.due.now c.in-Before.time c.pop_before.result c.in-Before.is c.pop_before.ensures.before

pub returns-in-Before-clause-none : goal.returns-in-Before-clause-none
returns-in-Before-clause-none c =
    none_before c.args.due.now c.in-Before.time c.pop_before.result c.args.agenda.now.items c.in-Before.is c.pop_before.ensures.none
