-- Changes of what is played.
--     map_change      the change with something else in the place of its pattern
--     pattern_in      the pattern of a change
use Rattle.std.specs.Prelude.{Option, Some, None}
use Rattle.tdl_desk.specs.declared.changes.Change.{Change}
use Rattle.tdl_desk.specs.declared.changes.Change.TheVariants.{Set, Hush, Mute, Unmute, Solo, Unsolo, UnmuteAll, UnsoloAll}

abbrev pub map_change : {P Q : Type 0} → (P → Q) → Change P → Change Q
map_change f (Set orbit pattern) = Set orbit (f pattern)
map_change f Hush = Hush
map_change f (Mute orbit) = Mute orbit
map_change f (Unmute orbit) = Unmute orbit
map_change f (Solo orbit) = Solo orbit
map_change f (Unsolo orbit) = Unsolo orbit
map_change f UnmuteAll = UnmuteAll
map_change f UnsoloAll = UnsoloAll

abbrev pub pattern_in : {P : Type 0} → Change P → Option P
pattern_in (Set orbit pattern) = Some pattern
pattern_in _ = None
