use Rattle.std.proofs.Common.{◌≡◌, length}
use Rattle.tdl_crowd.proofs.performers.performers_of.Given as goal

abbrev pub invariant-loop-place : goal.invariant-loop-place
invariant-loop-place l = length l.performers.items ≡ l.place
