use Rattle.std.proofs.Common.{rules}
use Rattle.tdl_play_tests.proofs.patterns.arc_of.Goals as goal

pub returns-then-is_query_arc : goal.returns-then-is_query_arc
returns-then-is_query_arc c = c.is_query_arc.ensures.0 (search rules)
