use Rattle.std.proofs.Common.{◌≡◌, ◌-◌, drop, length}
use Rattle.std.specs.Option.{option_copied}
use Rattle.tdl_desk.specs.Fields.{later_on}
use Rattle.tdl_desk.proofs.fields.Field.at.Given as goal

-- what is still to come makes of the value so far what all makes of what was there
abbrev pub invariant-loop-later : goal.invariant-loop-later
invariant-loop-later g l =
    later_on (option_copied l.value) (drop l.next l.self-inside.pending.items) l.cycle ≡ later_on l.self-inside.present l.self-inside.pending.items l.cycle

abbrev pub decreases-loop-later : goal.decreases-loop-later
decreases-loop-later g l = length l.self-inside.pending.items - l.next
