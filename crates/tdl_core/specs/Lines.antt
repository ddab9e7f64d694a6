-- The line of a reply as it is kept.
use Rattle.std.specs.Prelude.{ℕ, List}
use Rattle.tdl_core.specs.declared.replies.Line.{Line}
use Rattle.tdl_core.specs.declared.replies.Line.TheVariants.{Short, Long}

abbrev pub bytes_of : Line → List ℕ
bytes_of (Short line) = line.items
bytes_of (Long line) = line
