use Rattle.std.proofs.Common.{◌≡◌, ◌++◌, take}
use Rattle.std.specs.List.{flat_map}
use Rattle.tdl_osc.specs.Message.{argument_bytes}
use Rattle.tdl_osc.specs.Bundle.{control_arguments}
use Rattle.tdl_osc.proofs.bundles.put_controls.Given as goal

-- the entries so far are added
abbrev pub invariant-loop-i : goal.invariant-loop-i
invariant-loop-i l =
    l.out.items ≡ l.initial.out.items ++ flat_map argument_bytes (control_arguments (take l.i l.controls))
