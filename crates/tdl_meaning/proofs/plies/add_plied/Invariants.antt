use Rattle.std.proofs.Common.{◌≡◌, ◌++◌}
use Rattle.std.specs.List.{flat_map}
use Rattle.tdl_meaning.specs.Kinds.{fragments}
use Rattle.tdl_meaning.proofs.plies.add_plied.Given as goal

abbrev pub invariant-loop-event : goal.invariant-loop-event
invariant-loop-event l = l.out ≡ l.fn.out ++ flat_map (fragments l.times) l.yielded
