use Rattle.std.proofs.Common.{◌≡◌, ◌++◌}
use Rattle.std.specs.List.{filter}
use Rattle.tdl_meaning.specs.Onsets.{has_onset}
use Rattle.tdl_grid.specs.ItemLaws.{events_of}
use Rattle.tdl_grid.proofs.events.add_onsets.Given as goal

abbrev pub invariant-loop-item : goal.invariant-loop-item
invariant-loop-item l = record {
  out : l.out ≡ l.fn.out ++ filter has_onset (events_of l.unit l.yielded);
  unit : l.times ≡ l.unit;
}
