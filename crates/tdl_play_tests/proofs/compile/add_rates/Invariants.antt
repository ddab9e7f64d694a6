use Rattle.std.proofs.Common.{◌<◌, length}
use Rattle.tdl_play_tests.proofs.compile.add_rates.Given as goal

abbrev pub invariant-loop : goal.invariant-loop
invariant-loop l = l.last.index < length l.table
