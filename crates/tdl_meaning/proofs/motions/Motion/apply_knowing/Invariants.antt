use Rattle.std.proofs.Common.{◌≡◌}
use Rattle.tdl_fraction.specs.Arc.{map_arc}
use Rattle.tdl_meaning.specs.Pattern.{moved}
use Rattle.tdl_meaning.specs.Motions.{time_at}
use Rattle.tdl_meaning.proofs.Moves.{moved_between}
use Rattle.tdl_meaning.proofs.motions.Motion.apply_knowing.Given as goal

abbrev pub invariant-loop-i : goal.invariant-loop-i
invariant-loop-i l = record {
  events : l.events ≡ moved_between (moved (time_at l.self)) l.from l.i l.fn.events;
  there : l.there ≡ map_arc (time_at l.self) l.known;
}
