-- What a performer's line asks for.
--     Asked            nothing, a look, or a change from the next multiple of so many cycles on
--     asked            what a line asks for, with patterns as they are built
--     pattern_asked    the pattern in it
use Rattle.std.specs.Prelude.{ℕ, Option, Some, None}
use Rattle.tdl_desk.specs.declared.changes.Change.{Change}
use Rattle.tdl_desk.specs.declared.changes.Change.TheVariants as change
use Rattle.tdl_desk.specs.Changes.{pattern_in}
use Rattle.tdl_expr.specs.Tree.{Tree}
use Rattle.tdl_rows.specs.Built.{Built}
use Rattle.tdl_command.specs.declared.names.Order.{Order}
use Rattle.tdl_command.specs.declared.names.Order.TheVariants.{Look, Hush, UnmuteAll, UnsoloAll}
use Rattle.tdl_command.specs.declared.names.Flag.{Flag}
use Rattle.tdl_command.specs.declared.names.Flag.TheVariants.{Mute, Unmute, Solo, Unsolo}
use Rattle.tdl_command.specs.Tree as line
use Rattle.tdl_command.specs.Tree.{Line}
use Rattle.tdl_prepare.specs.Built.{built}

pub data Asked (P : Type 0) : Type 0 where
  nothing : Asked P
  look : Asked P
  swap : (every : ℕ) → Change P → Asked P

abbrev pub ordered : {P : Type 0} → Order → Asked P
ordered Look = look
ordered Hush = swap 1 change.Hush
ordered UnmuteAll = swap 1 change.UnmuteAll
ordered UnsoloAll = swap 1 change.UnsoloAll

abbrev pub flagged : {P : Type 0} → Flag → ℕ → Change P
flagged Mute orbit = change.Mute orbit
flagged Unmute orbit = change.Unmute orbit
flagged Solo orbit = change.Solo orbit
flagged Unsolo orbit = change.Unsolo orbit

-- a line whose number is no orbit is not read
abbrev pub placed : {P : Type 0} → Option ℕ → P → Asked P
placed None pattern = nothing
placed (Some orbit) pattern = swap 1 (change.Set orbit pattern)

abbrev pub asked : Line → Asked (Built Tree)
asked line.nothing = nothing
asked (line.order o) = ordered o
asked (line.flag f orbit) = swap 1 (flagged f orbit)
asked (line.play o e) = placed o (built e)
asked (line.still o) = placed o (built line.silence)
asked (line.jump orbit every e) = swap every (change.Set orbit (built e))

abbrev pub pattern_asked : {P : Type 0} → Asked P → Option P
pattern_asked (swap every c) = pattern_in c
pattern_asked _ = None
