-- What the words of a query call for.
--     pattern_fault  why a pattern cannot be played, if it cannot
--     RefusesQuery   why a query has no answer, by the first reason
--     QueryAnswer    the status that a query calls for, and the text that goes with it
use Rattle.std.specs.Prelude.{◌≡◌, ℕ, List, codes, Option, Some, None}
use Rattle.tdl_fraction.specs.Arc.{Arc}
use Rattle.tdl_control.specs.declared.faults.Faulted.TheVariants.{At}
use Rattle.tdl_event.specs.Event.{print_of}
use Rattle.tdl_meaning.specs.Pattern.{over}
use Rattle.tdl_meaning.specs.Meaning.{cyc}
use Rattle.tdl_command.specs.Tree.{PatternTree}
use Rattle.tdl_line_machine.specs.declared.faults.LineKind.{LineKind}
use Rattle.tdl_line_texts.specs.Texts.{IsPattern, RefusesPattern}
use Rattle.tdl_prepare.specs.declared.faults.PrepareFault.{PrepareFault}
use Rattle.tdl_prepare.specs.declared.faults.PrepareFault.TheVariants as prepare
use Rattle.tdl_prepare.specs.Prepared.{prepare_fault, pattern_built}
use Rattle.tdl_words.specs.Modes.{Query}
use Rattle.tdl_app.specs.declared.arcs.ArcFault.{ArcFault}
use Rattle.tdl_answer.specs.declared.refusals.Refusal.TheVariants as refusal
use Rattle.tdl_app.specs.declared.query_faults.QueryRefusal.{QueryRefusal}
use Rattle.tdl_app.specs.declared.query_faults.QueryRefusal.TheVariants as query
use Rattle.tdl_app.specs.Arcs.{NamesArc, RefusesArc}
use Rattle.tdl_app.specs.QueryRefusals.{query_refusal_line}

abbrev pub usage_line : List ℕ
usage_line = codes "usage: tdl query|play|serve|drill\n"

-- the first limit that it passes
abbrev pub pattern_fault : PatternTree → Option PrepareFault
pattern_fault pattern = prepare_fault (pattern_built pattern)

-- the words are a pattern and the ends of an arc
pub record Asks (q : Query) (pattern : PatternTree) (arc : Arc) : Type 0 where
  pub reads : IsPattern q.pattern pattern
  pub names : NamesArc q.from q.to arc

pub data RefusesQuery (q : Query) (why : QueryRefusal) : Type 0 where
  -- the pattern's first fault
  unread : (kind : LineKind) (at : ℕ) → RefusesPattern q.pattern (At kind at) → why ≡ query.Pattern (refusal.Unread kind at) → RefusesQuery q why
  -- a pattern, and no arc
  no_arc : (pattern : PatternTree) → IsPattern q.pattern pattern → (fault : ArcFault) → RefusesArc q.from q.to fault
      → why ≡ query.Arc fault → RefusesQuery q why
  -- a pattern and an arc, and a limit that the pattern passes
  too_large : (pattern : PatternTree) (arc : Arc) → Asks q pattern arc → (rows links : ℕ)
      → pattern_fault pattern ≡ Some (prepare.TooLarge rows links) → why ≡ query.Pattern (refusal.TooLarge rows links) → RefusesQuery q why
  too_dense : (pattern : PatternTree) (arc : Arc) → Asks q pattern arc → (load : ℕ)
      → pattern_fault pattern ≡ Some (prepare.TooDense load) → why ≡ query.Pattern (refusal.TooDense load) → RefusesQuery q why
  too_fine : (pattern : PatternTree) (arc : Arc) → Asks q pattern arc → (grid : ℕ)
      → pattern_fault pattern ≡ Some (prepare.TooFine grid) → why ≡ query.Pattern (refusal.TooFine grid) → RefusesQuery q why
  too_far : (pattern : PatternTree) (arc : Arc) → Asks q pattern arc → (reach : ℕ)
      → pattern_fault pattern ≡ Some (prepare.TooFar reach) → why ≡ query.Pattern (refusal.TooFar reach) → RefusesQuery q why

pub data QueryAnswer (q : Query) (status : ℕ) (text : List ℕ) : Type 0 where
  refused : (why : QueryRefusal) → RefusesQuery q why → status ≡ 2 → text ≡ query_refusal_line why → QueryAnswer q status text
  -- the pattern's events in the arc
  events : (pattern : PatternTree) (arc : Arc) → Asks q pattern arc → pattern_fault pattern ≡ None
      → status ≡ 0 → text ≡ print_of (over (cyc (pattern_built pattern).value) arc) → QueryAnswer q status text
