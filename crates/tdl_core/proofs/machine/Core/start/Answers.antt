use Rattle.tdl_core.proofs.Kept.{kept_none}
use Rattle.tdl_core.proofs.machine.Core.start.Goals as goal

pub invariant_of-result-2 : goal.invariant_of-result-2
invariant_of-result-2 c =
    rw (c.new.ensures)
    (kept_none c.lines_make_histories.ensures.growth c.args.tempo c.new-2.result c.new-3.result c.new-2.ensures.stands c.new-2.ensures.settled
    c.new-3.ensures)
