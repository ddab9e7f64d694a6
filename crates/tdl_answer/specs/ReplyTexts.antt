-- The line of a reply as it is kept.
use Rattle.std.specs.Prelude.{ℕ, List}
use Rattle.tdl_answer.specs.declared.replies.Line.{Line}
use Rattle.tdl_answer.specs.declared.replies.Line.TheVariants.{Fixed, Reply, Made}

abbrev pub bytes_of : Line → List ℕ
bytes_of (Fixed line) = line.now
bytes_of (Reply line) = line
bytes_of (Made line) = line
