use Rattle.tdl_meaning.proofs.Cycles.{cycle_is_arc}
use Rattle.tdl_meaning.proofs.cycle.Cycle.arc.Goals as goal

pub unwrap-requires : goal.unwrap-requires
unwrap-requires c = c.of.ensures.found.1 (rw (c.start.ensures, c.start-2.ensures, c.later.ensures) (cycle_is_arc c.args.self))
