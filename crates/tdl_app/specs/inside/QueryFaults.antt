-- Why a query has no events, as the code tells it, and of what its events are made.
use Rattle.std.specs.Prelude.{◌≡◌, None}
use Rattle.tdl_fraction.specs.Arc.{Arc}
use Rattle.tdl_expr.specs.Rows.{tree_at}
use Rattle.tdl_compile.specs.Compiled.{Compiled}
use Rattle.tdl_command.specs.Tree.{PatternTree}
use Rattle.tdl_prepare.specs.Prepared.{pattern_built}
use Rattle.tdl_words.specs.Modes.{Query}
use Rattle.tdl_answer.specs.declared.text_faults.TextFault.{TextFault}
use Rattle.tdl_answer.specs.declared.text_faults.TextFault.TheVariants as text
use Rattle.tdl_app.specs.declared.query_faults.QueryFault.{QueryFault}
use Rattle.tdl_app.specs.declared.query_faults.QueryFault.TheVariants.{NoMemory, Refused}
use Rattle.tdl_app.specs.declared.query_faults.QueryRefusal.TheVariants.{Pattern}
use Rattle.tdl_app.specs.Answer.{Asks, RefusesQuery, pattern_fault}

abbrev pub of_text : TextFault → QueryFault
of_text text.NoMemory = NoMemory
of_text (text.Refused why) = Refused (Pattern why)

-- out of memory says nothing of the query
abbrev pub IsFaultOf : Query → QueryFault → Type 0
IsFaultOf q NoMemory = Unit {0}
IsFaultOf q (Refused why) = RefusesQuery q why

-- a program of the query's pattern, which passes no limit, and the query's arc
pub record IsPlan (q : Query) (program : Compiled) (arc : Arc) : Type 0 where
  pub pattern : PatternTree
  pub asks : Asks q pattern arc
  pub tree : tree_at program.nodes program.root ≡ (pattern_built pattern).value
  pub fits : pattern_fault pattern ≡ None
