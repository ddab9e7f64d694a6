use Rattle.std.proofs.Common.{rules}
use Rattle.tdl_fraction.proofs.Arcs.{meet_inside_left}
use Rattle.tdl_value_tests.proofs.event.event.Goals as goal

pub invariant_of-result : goal.invariant_of-result
invariant_of-result c = meet_inside_left c.in_ok-whole.whole c.in_ok-window.window c.in_ok-part.part (search rules)
