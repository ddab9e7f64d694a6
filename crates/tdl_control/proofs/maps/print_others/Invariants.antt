use Rattle.std.proofs.Common.{◌≡◌, ◌++◌, map, take}
use Rattle.tdl_control.specs.KeyValue.{key_value_of}
use Rattle.tdl_control.specs.Map.{spaced_text}
use Rattle.tdl_control.proofs.maps.print_others.Given as goal

-- the entries so far are added
abbrev pub invariant-loop-entry : goal.invariant-loop-entry
invariant-loop-entry l = l.out ≡ l.initial.out ++ spaced_text (take l.entry-index (map key_value_of l.others))
