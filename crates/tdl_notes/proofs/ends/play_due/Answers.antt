use Rattle.std.proofs.Common.{sym, ◌∙◌}
use Rattle.tdl_notes.specs.inside.Machine.{is_due}
use Rattle.tdl_notes.proofs.OneMore.{rest-none}
use Rattle.tdl_notes.proofs.ends.play_due.Goals as goal

pub returns-clause-left : goal.returns-clause-left
returns-clause-left c =
    c.in_default.ensures.stays ∙ sym (rest-none (is_due c.args.due.now) c.loop-item.agenda.items c.in_default.ensures.none) ∙ c.loop-item.invariant.left
