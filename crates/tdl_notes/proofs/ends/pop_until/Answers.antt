use Rattle.std.proofs.Common.{sym, ◌∙◌}
use Rattle.tdl_notes.proofs.OneMore.{front-until_none}
use Rattle.tdl_notes.proofs.ends.pop_until.Goals as goal

pub returns-then-is_less-clause-none : goal.returns-then-is_less-clause-none
returns-then-is_less-clause-none c =
    front-until_none c.args.time c.in-Some.item.now c.args.agenda.now.items c.in-Some.ensures.first (sym c.is_less.ensures.value ∙ c.if-is_less.true)
