-- The lines of a program's events on their way to an output: they wait until they are a piece, and are put together.
--     lines_in        the lines of the events in an arc
--     Streams         a text came after what waited: of the two a front was put, and the rest waits
--     BreaksOff       a text was to come after what waited: of the two a front was put, and then a put failed or memory ran out
use Rattle.std.specs.Prelude.{◌≡◌, ℕ, ◌≤◌, List, ◌++◌}
use Rattle.tdl_io.specs.Told.{GainedExactly, GainedPrefix}
use Rattle.tdl_io.specs.Faults.{CountRose}
use Rattle.tdl_fraction.specs.Arc.{Arc}
use Rattle.tdl_event.specs.Event.{print_of}
use Rattle.tdl_expr.specs.Rows.{tree_at}
use Rattle.tdl_compile.specs.Compiled.{Compiled}
use Rattle.tdl_meaning.specs.Pattern.{over}
use Rattle.tdl_meaning.specs.Meaning.{cyc}
use Rattle.tdl_app.specs.declared.stops.Stop.{Stop}
use Rattle.tdl_app.specs.declared.stops.Stop.TheVariants.{Memory, Fault, Input}
use Rattle.tdl_answer.specs.Account.{Account}

abbrev pub lines_in : Compiled → Arc → List ℕ
lines_in program arc = print_of (over (cyc (tree_at program.nodes program.root)) arc)

pub record Streams (text before after : List ℕ) (out : Account ℕ) : Type 0 where
  pub put : List ℕ
  pub parts : before ++ text ≡ put ++ after
  pub gained : GainedExactly out.told_before out.told_after put
  pub kept : out.faults_before ≤ out.faults_after

-- the count did not fall where memory ran out, and rose where a put failed; the input is not asked here
abbrev pub CountsStop : Stop → Account ℕ → Type 0
CountsStop Memory out = out.faults_before ≤ out.faults_after
CountsStop Fault out = CountRose out.faults_before out.faults_after
CountsStop Input out = ⊥

pub record BreaksOff (text before : List ℕ) (stop : Stop) (out : Account ℕ) : Type 0 where
  pub gained : GainedPrefix out.told_before out.told_after (before ++ text)
  pub counts : CountsStop stop out
