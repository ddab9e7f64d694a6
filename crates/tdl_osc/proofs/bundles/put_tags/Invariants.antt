use Rattle.std.proofs.Common.{◌≡◌, ◌≤◌, ◌++◌, take}
use Rattle.std.specs.List.{flat_map}
use Rattle.tdl_control.specs.Key.{key_count}
use Rattle.tdl_osc.specs.Message.{tag_of}
use Rattle.tdl_osc.specs.Bundle.{control_arguments}
use Rattle.tdl_osc.proofs.bundles.put_tags.Given as goal

-- the tags so far are added, and there are few entries
abbrev pub invariant-loop-i : goal.invariant-loop-i
invariant-loop-i l =
    (l.out.items ≡ l.initial.out.items ++ flat_map tag_of (control_arguments (take l.i l.controls))) × (l.i ≤ key_count)
