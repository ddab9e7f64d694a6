-- A query that has its events is not refused.
--     one_pattern    a text is one pattern at most
--     one_arc        two words name one arc at most
--     never_named    they name none where they are refused
--     never_both     so for a query
use Rattle.std.proofs.Common.{◌≡◌, ℕ, ◌⊎◌, inl, inr, pos, Bool, true, false, List, Some, None, sym, ap, ap₂, subst, ◌∙◌}
use Rattle.std.proofs.lemmas.Bool.{false≢true}
use Rattle.std.proofs.lemmas.Option.{none-some}
use Rattle.tdl_fraction.specs.Rational.{Rational, whole, ◌≤ℚ◌, ◌<ℚ◌}
use Rattle.tdl_fraction.specs.Arc.{Arc}
use Rattle.tdl_fraction.specs.Units.{IsOnGrid, last_cycle}
use Rattle.tdl_fraction.proofs.Order.{clash_ℚ}
use Rattle.tdl_fraction.proofs.Spelling.{Reads-unique}
use Rattle.tdl_fraction.proofs.UnitCounts.{query_start_in_range, query_stop_in_range}
use Rattle.tdl_control.specs.declared.faults.Faulted.{Faulted}
use Rattle.tdl_control.specs.declared.faults.Faulted.TheVariants.{NoMemory, At}
use Rattle.tdl_mini_tree.specs.declared.leaves.Kind.TheVariants.{Sound}
use Rattle.tdl_mini_grammar.proofs.TextsRead.{IsMini-unique}
use Rattle.tdl_command.specs.Tree.{Expr, PatternTree, Whole, expression, line, pattern, sounds}
use Rattle.tdl_line_machine.specs.declared.faults.LineKind.{LineKind}
use Rattle.tdl_line_machine.specs.declared.goals.Goal.TheVariants.{Pattern as a_pattern}
use Rattle.tdl_line_texts.specs.Texts.{IsPattern, RefusesPattern}
use Rattle.tdl_line_texts.proofs.LinesRead.{IsWhole-unique}
use Rattle.tdl_script.proofs.PatternTexts.{pattern_alone}
use Rattle.tdl_prepare.specs.declared.faults.PrepareFault.{PrepareFault}
use Rattle.tdl_prepare.specs.declared.faults.PrepareFault.TheVariants as prepare
use Rattle.tdl_words.specs.Modes.{Query}
use Rattle.tdl_app.specs.declared.arcs.ArcFault.{ArcFault}
use Rattle.tdl_app.specs.declared.query_faults.QueryRefusal.{QueryRefusal}
use Rattle.tdl_app.specs.Answer.{Asks, RefusesQuery, pattern_fault}
use Rattle.tdl_app.specs.Arcs.{NamesArc, RefusesArc, Writes}

-- ---- the pattern
abbrev expression_in : Expr → Whole → Expr
expression_in other (line l) = other
expression_in other (pattern e) = e

one_pattern : (text : List ℕ) (one other : PatternTree) → IsPattern text one → IsPattern text other → one ≡ other
one_pattern text (sounds a) (sounds b) is also = ap sounds (IsMini-unique Sound text a b is.2 also.2)
one_pattern text (sounds a) (expression e) is also = absurd (is.1 also.0)
one_pattern text (expression d) (sounds b) is also = absurd (also.1 is.0)
one_pattern text (expression d) (expression e) is also =
    ap (λ (w : Whole). expression (expression_in d w)) (IsWhole-unique a_pattern text (pattern d) (pattern e) is.1 also.1)

abbrev is_memory : Faulted LineKind → Bool
is_memory NoMemory = true
is_memory (At kind at) = false

never_unread : (text : List ℕ) (tree : PatternTree) (kind : LineKind) (at : ℕ) → IsPattern text tree → RefusesPattern text (At kind at) → ⊥
never_unread text tree kind at is refuses = false≢true (ap is_memory (pattern_alone text (At kind at) refuses tree is))

-- a pattern within the limits passes none
never_above : (text : List ℕ) (tree other : PatternTree) (fault : PrepareFault) → IsPattern text tree → pattern_fault tree ≡ None → IsPattern text other
    → pattern_fault other ≡ Some fault → ⊥
never_above text tree other fault is fits also above =
    none-some fault (sym fits ∙ ap pattern_fault (one_pattern text tree other is also) ∙ above)

-- ---- the arc
one_arc : (from to : List ℕ) (one other : Arc) → NamesArc from to one → Writes from to other → other ≡ one
one_arc from to one other names writes =
    ap₂ (λ (start stop : Rational). record { start = start; stop = stop })
    (Reads-unique from other.start one.start writes.start names.start) (Reads-unique to other.stop one.stop writes.stop names.stop)

never_named : (from to : List ℕ) (arc : Arc) (fault : ArcFault) → NamesArc from to arc → RefusesArc from to fault → ⊥
never_named from to arc fault names (RefusesArc.no_start none is) = none arc.start names.start (query_start_in_range arc names.allowed)
never_named from to arc fault names (RefusesArc.no_stop start reads near none is) = none arc.stop names.stop (query_stop_in_range arc names.allowed)
never_named from to arc fault names (RefusesArc.order other writes out is) =
    let here : (arc.start <ℚ whole (pos 0)) ⊎ (arc.stop ≤ℚ arc.start) =
    subst (λ (a : Arc). (a.start <ℚ whole (pos 0)) ⊎ (a.stop ≤ℚ a.start)) (one_arc from to arc other names writes) out in
    elim here [ inl before ↦ clash_ℚ before names.allowed.from_zero | inr late ↦ clash_ℚ names.allowed.ordered late ]
never_named from to arc fault names (RefusesArc.last other writes ordered late is) =
    clash_ℚ (subst (λ (a : Arc). whole (pos last_cycle) <ℚ a.stop) (one_arc from to arc other names writes) late) names.allowed.to_last
never_named from to arc fault names (RefusesArc.grid other writes ordered before off is) =
    off (subst IsOnGrid (sym (one_arc from to arc other names writes)) names.allowed.on_grid)

-- ---- the query
pub never_both : (query : Query) (tree : PatternTree) (arc : Arc) (why : QueryRefusal) → Asks query tree arc → pattern_fault tree ≡ None
    → RefusesQuery query why → ⊥
never_both query tree arc why asks fits (RefusesQuery.unread kind at refuses is) = never_unread query.pattern tree kind at asks.reads refuses
never_both query tree arc why asks fits (RefusesQuery.no_arc other also fault refuses is) = never_named query.from query.to arc fault asks.names refuses
never_both query tree arc why asks fits (RefusesQuery.too_large other a also rows links above is) =
    never_above query.pattern tree other (prepare.TooLarge rows links) asks.reads fits also.reads above
never_both query tree arc why asks fits (RefusesQuery.too_dense other a also load above is) =
    never_above query.pattern tree other (prepare.TooDense load) asks.reads fits also.reads above
never_both query tree arc why asks fits (RefusesQuery.too_fine other a also grid above is) =
    never_above query.pattern tree other (prepare.TooFine grid) asks.reads fits also.reads above
never_both query tree arc why asks fits (RefusesQuery.too_far other a also reach above is) =
    never_above query.pattern tree other (prepare.TooFar reach) asks.reads fits also.reads above
