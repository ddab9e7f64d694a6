use Rattle.std.proofs.Common.{◌≡◌, ◌++◌, take}
use Rattle.std.specs.List.{flat_map}
use Rattle.tdl_event.specs.Event.{Event}
use Rattle.tdl_meaning.specs.Values.{value_of}
use Rattle.tdl_meaning.specs.Pairs.{made_with}
use Rattle.tdl_meaning.proofs.joins.add_pairs.Given as goal

abbrev pub invariant-loop-i : goal.invariant-loop-i
invariant-loop-i l =
    l.out ≡ l.fn.out ++ flat_map (λ (e : Event). flat_map (λ (o : Event). made_with l.side (value_of l.op) e o) l.others) (take l.i l.firsts)
