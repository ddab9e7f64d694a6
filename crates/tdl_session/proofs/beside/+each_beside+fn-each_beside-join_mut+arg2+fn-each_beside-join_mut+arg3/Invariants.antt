use Rattle.std.proofs.Common.{length}
use Rattle.tdl_session.proofs.beside.+each_beside+fn-each_beside-join_mut+arg2+fn-each_beside-join_mut+arg3.Given as goal

abbrev pub decreases-each_beside : goal.decreases-each_beside
decreases-each_beside g l = length l.seconds.now

abbrev pub decreases-join_mut+arg2 : goal.decreases-join_mut+arg2
decreases-join_mut+arg2 g l = length l.near.now

abbrev pub decreases-join_mut+arg3 : goal.decreases-join_mut+arg3
decreases-join_mut+arg3 g l = length l.far.now
