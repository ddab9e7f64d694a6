use Rattle.std.specs.List.{flat_map}
use Rattle.std.proofs.Common.{arith, ◌≡◌, ◌+◌, ◌≤◌, ℤ, pos, ◌+ℤ◌, ◌-ℤ◌, [], ◌∷◌, refl, sym, ap, ◌∙◌, subst, rules, ◌*◌, ◌/◌, ◌<◌, List, ◌++◌, length, map}
use Rattle.std.proofs.Common.{take, drop, Some, None, Ok}
use Rattle.std.proofs.lemmas.List.{drop_all}
use Rattle.std.proofs.lemmas.List.Sums.{sum_by-take-drop}
use Rattle.std.proofs.lemmas.Result.{IfOk-equal, on_ok_weaker}
use Rattle.tdl_fraction.specs.Arc.{meet, IsInside}
use Rattle.tdl_fraction.specs.Range.{InRange}
use Rattle.tdl_fraction.specs.Rational.{frac, floor, ceil}
use Rattle.tdl_event.specs.Event.{Event}
use Rattle.tdl_expr.specs.Bounds.{bounds, bounds_of_steps, loads, bounds_of}
use Rattle.tdl_expr.specs.Passed.{weight_sum}
use Rattle.tdl_expr.specs.Rows.{trees_of, tree_at, row, tree_of, weighted as steps_of, in_order}
use Rattle.tdl_expr.specs.declared.ids.NodeId.{NodeId}
use Rattle.tdl_expr.specs.declared.nodes.Node.{Node}
use Rattle.tdl_expr.specs.declared.steps.Step.{Step as StepValue}
use Rattle.tdl_meaning.specs.Asks.{IsCycleOf}
use Rattle.tdl_meaning.specs.Meaning.{cyc, weighted as shares_of, patterns}
use Rattle.tdl_meaning.specs.Proper.{Each}
use Rattle.tdl_meaning.specs.Ranges.{HasEnds}
use Rattle.tdl_meaning.specs.Pattern.{cycle_arc, whole_range, over, moved, squeezed, picked}
use Rattle.tdl_meaning.specs.inside.Arcs.{over_met, step_ask, steps_over}
use Rattle.tdl_meaning.specs.inside.Children.{rows_needed}
use Rattle.tdl_meaning.proofs.Added.{flat_one_more}
use Rattle.tdl_meaning.proofs.Condition.{may_cycle, over_fits}
use Rattle.tdl_meaning.proofs.Moves.{each_of}
use Rattle.tdl_meaning.proofs.Moving.{cycle_small}
use Rattle.tdl_meaning.proofs.PlainLemmas.{in_order_of, kth_cycle, cycles_more, over-silence, row_at, row_of, child_of}
use Rattle.tdl_meaning.proofs.Proper.{proper}
use Rattle.tdl_visits.specs.inside.Joins.{joined_tree}
use Rattle.tdl_visits.specs.inside.Visits.{visits, if_met, visits_of_steps, visits_at}
use Rattle.tdl_visits.proofs.ByRow.{is_node, rows_under, cycles_counted, over_made, visits_made, when_row}
use Rattle.tdl_visits.proofs.FewSteps.{once_more, no_more, step_more, fewer_loads, child_more}
use Rattle.tdl_visits.proofs.Sequences.{time_cat_over, first_skipped, rest_skipped, steps_done, steps_more, step_visited, step_in_range, before_more, at_step}
use Rattle.tdl_visits.proofs.Sides.{giver_below, other_below}
use Rattle.tdl_visits.proofs.TakenTurns.{round_row, round_load}
use Rattle.tdl_visits.proofs.Visits.{in_turn, for_child, one_above, none_taken, one_cycle_more, all_taken, visits_of_sequence, first_unvisited, rest_unvisited}
use Rattle.tdl_visits.proofs.Visits.{next_taken, each_taken, child_visited}
use Rattle.tdl_grid.specs.Item.{Item, event_of}
use Rattle.tdl_grid.specs.ItemLaws.{events_of}
use Rattle.tdl_grid.specs.Span.{earlier_span, turn_span, arc_of}
use Rattle.tdl_grid.specs.Step.{asked_step}
use Rattle.tdl_grid.specs.declared.asks.JoinUnit.{JoinUnit}
use Rattle.tdl_grid.specs.inside.Asked.{time_ask, MayCountVisit, MayCount, MayCountEach}
use Rattle.tdl_grid.specs.inside.Passed.{ArePassedCounts}
use Rattle.tdl_grid.proofs.Children.{start_read, stop_read, first_cycle, last_cycle, ends_fit, cycle_fits, start_in_range, stop_in_range, cut_visit}
use Rattle.tdl_grid.proofs.Children.{met_cycle, added_within, fast_rate, fast_unit, fast_child, fast_visit}
use Rattle.tdl_grid.proofs.Chosen.{event_within, event_at, event_past, pick_selector, each_may, each_inside, pick_gains, chosen_gains, none_gained}
use Rattle.tdl_grid.proofs.CountMoves.{shift_divides, shift_child, shift_counts, shift_there, shift_steps, rev_child, rev_counts, rev_there, rev_visits}
use Rattle.tdl_grid.proofs.CountTurns.{tree_there, may_node, turn_passed, turn_child, turn_counts, turn_there, turn_visits, when_child, when_visit}
use Rattle.tdl_grid.proofs.Cut.{ply_child, ply_pieces, ply_gains, gate_child, gate_within, gate_gains}
use Rattle.tdl_grid.proofs.Gained.{adds_none, adds_as, adds_next, adds_all}
use Rattle.tdl_grid.proofs.Gaining.{ran_out, unit_small, of_node, of_leaf, may_visit}
use Rattle.tdl_grid.proofs.Joined.{both_gained, giver_ran_out, givers_asked, one_gained, leaf_gained, asked_at, whole_may, whole_meets, others_fit}
use Rattle.tdl_grid.proofs.Joined.{same_whole, made_next}
use Rattle.tdl_grid.proofs.Joined.{taken_next, made_more, taken_more, few_more, all_gained, of_other}
use Rattle.tdl_grid.proofs.Moved.{adds_both}
use Rattle.tdl_grid.proofs.OtherSides.{left_asked, right_asked, giver_asked, own_makes, own_unit}
use Rattle.tdl_grid.proofs.Stacked.{may_count_node, at_row, stack_child, stack_gains}
use Rattle.tdl_grid.proofs.StepAsks.{at_counts, has_width}
use Rattle.tdl_grid.proofs.LeafSteps.{leaf_visited}
use Rattle.tdl_grid.proofs.StepsOver.{step_gains, delayed_within, delayed_fit, delayed_adds, delay_is, in_unit}
use Rattle.tdl_grid.proofs.Sums.{read}
use Rattle.tdl_expr.specs.Tree as tree
use Rattle.tdl_grid.proofs.evaluator.+counted.Goals as goal

-- ---- at a rate
pub fast-unit_at_rate-unit-requires : goal.fast-unit_at_rate-unit-requires
fast-unit_at_rate-unit-requires g t c = fast_rate c.args.rate _ c.args.ask.now c.requires.visit

pub fast-in_arc-requires : goal.fast-in_arc-requires
fast-in_arc-requires g t c = λ κs alive.
    let made = fast_unit c.args.rate _ c.args.ask.now c.requires.visit c.unit_at_rate-unit.result c.unit_at_rate-unit.ensures in
    let may = fast_child c.args.rate _ c.args.ask.now c.requires.visit c.unit_at_rate-unit.result made in
    (omega (arith, c.decreases), (alive, (c.requires.row, may)))

pub fast-returns : goal.fast-returns
fast-returns g t c =
    let made = fast_unit c.args.rate _ c.args.ask.now c.requires.visit c.unit_at_rate-unit.result c.unit_at_rate-unit.ensures in
    fast_visit c.args.rate _ c.args.ask.now c.requires.visit c.unit_at_rate-unit.result made c.in_arc.result _ _ _ _ c.in_arc.ensures

-- ---- later
pub shift-count_at-by-requires-clause-divides : goal.shift-count_at-by-requires-clause-divides
shift-count_at-by-requires-clause-divides g t c =
    shift_divides c.args.by _ c.args.ask.now c.requires.visit

pub shift-count_at-by-requires-clause-positive : goal.shift-count_at-by-requires-clause-positive
shift-count_at-by-requires-clause-positive g t c =
    c.requires.visit.count.unit.positive

pub shift-count_at-by-requires-clause-small : goal.shift-count_at-by-requires-clause-small
shift-count_at-by-requires-clause-small g t c =
    unit_small _ c.args.ask.now.unit _ c.requires.visit.count

pub shift-earlier-requires-clause-start : goal.shift-earlier-requires-clause-start
shift-earlier-requires-clause-start g t c =
    let n = c.count_at-by.ensures in
    let back = earlier_span (read c.count_at-by.result) c.args.ask.now.arc in
    (ends_fit _ _ _ (shift_child c.args.by _ c.args.ask.now c.requires.visit _ n.bound n.value back refl)).0

pub shift-earlier-requires-clause-stop : goal.shift-earlier-requires-clause-stop
shift-earlier-requires-clause-stop g t c =
    let n = c.count_at-by.ensures in
    let back = earlier_span (read c.count_at-by.result) c.args.ask.now.arc in
    (ends_fit _ _ _ (shift_child c.args.by _ c.args.ask.now c.requires.visit _ n.bound n.value back refl)).1

pub shift-in_arc-requires : goal.shift-in_arc-requires
shift-in_arc-requires g t c = λ κs alive.
    let n = c.count_at-by.ensures in
    (omega (arith, c.decreases), (alive, (c.requires.row, shift_child c.args.by _ c.args.ask.now c.requires.visit _ n.bound n.value _ c.earlier.ensures)))

pub shift-returns-in_err-in_arc : goal.shift-returns-in_err-in_arc
shift-returns-in_err-in_arc g t c =
    let n = c.count_at-by.ensures in
    ran_out _ _ _ _ c.from_residual.result _ _ _ _ _ c.from_residual.ensures.1
    (shift_steps c.args.by _ c.args.ask.now c.requires.visit _ n.bound n.value _ c.earlier.ensures c.in_arc.result _ _ _ _ c.in_arc.ensures).few

pub shift-delay-requires-clause-from : goal.shift-delay-requires-clause-from
shift-delay-requires-clause-from g t c =
    added_within _ _ _ _ c.len-from.result c.len-from.ensures c.in_ok-in_arc.ensures.items

pub shift-delay-requires-clause-fits : goal.shift-delay-requires-clause-fits
shift-delay-requires-clause-fits g t c =
    let n = c.count_at-by.ensures in
    shift_counts c.args.by _ c.args.ask.now c.requires.visit _ n.bound n.value _ c.earlier.ensures
    _ _ c.len-from.result c.len-from.ensures c.in_ok-in_arc.ensures.items

pub shift-returns : goal.shift-returns
shift-returns g t c =
    let n = c.count_at-by.ensures in
    let own = shift_steps c.args.by _ c.args.ask.now c.requires.visit _ n.bound n.value _ c.earlier.ensures _ _ _ _ _ c.in_ok-in_arc.ensures in
    record {
      items = shift_there c.args.by _ c.args.ask.now c.requires.visit _ n.bound n.value _ c.earlier.ensures
          _ _ c.len-from.result c.len-from.ensures c.in_ok-in_arc.ensures.items _ c.delay.ensures;
      exact = own.exact;
      few = own.few;
    }

-- ---- by turns
pub cat-count_of-by-requires-clause-few : goal.cat-count_of-by-requires-clause-few
cat-count_of-by-requires-clause-few g t c =
    let trees = trees_of c.args.program.now.nodes in
    turn_passed trees _ c.args.ask.now _ _ c.of-round.ensures c.since.ensures c.requires.visit

pub cat-count_of-by-requires-clause-small : goal.cat-count_of-by-requires-clause-small
cat-count_of-by-requires-clause-small g t c =
    unit_small _ c.args.ask.now.unit _ c.requires.visit.count

pub cat-earlier-requires-clause-start : goal.cat-earlier-requires-clause-start
cat-earlier-requires-clause-start g t c =
    let trees = trees_of c.args.program.now.nodes in
    let n = c.count_of-by.ensures in
    let back = earlier_span (read c.count_of-by.result) c.args.ask.now.arc in
    (ends_fit _ _ _ (turn_child trees _ c.args.ask.now _ _ c.of-round.ensures c.since.ensures c.requires.visit _ n.bound n.value back refl).count).0

pub cat-earlier-requires-clause-stop : goal.cat-earlier-requires-clause-stop
cat-earlier-requires-clause-stop g t c =
    let trees = trees_of c.args.program.now.nodes in
    let n = c.count_of-by.ensures in
    let back = earlier_span (read c.count_of-by.result) c.args.ask.now.arc in
    (ends_fit _ _ _ (turn_child trees _ c.args.ask.now _ _ c.of-round.ensures c.since.ensures c.requires.visit _ n.bound n.value back refl).count).1

pub cat-in_cycle-requires : goal.cat-in_cycle-requires
cat-in_cycle-requires g t c = λ κs alive.
    let trees = trees_of c.args.program.now.nodes in
    let n = c.count_of-by.ensures in
    let here = round_row _ _ _ c.of-round.ensures in
    let visit = turn_child trees _ c.args.ask.now _ _ c.of-round.ensures c.since.ensures c.requires.visit _ n.bound n.value _ c.earlier.ensures in
    (omega (arith, c.decreases, here), (alive, (omega (arith, c.requires.rows, here), visit)))

pub cat-returns-in_err-in_cycle : goal.cat-returns-in_err-in_cycle
cat-returns-in_err-in_cycle g t c =
    let trees = trees_of c.args.program.now.nodes in
    let load = round_load trees _ _ _ c.of-round.ensures in
    ran_out _ _ _ _ c.from_residual.result _ _ _ _ _ c.from_residual.ensures.1 (omega (arith, c.in_cycle.ensures.few, load))

pub cat-delay-requires-clause-from : goal.cat-delay-requires-clause-from
cat-delay-requires-clause-from g t c =
    added_within _ _ _ _ c.len-from.result c.len-from.ensures c.in_ok-in_cycle.ensures.items

pub cat-delay-requires-clause-fits : goal.cat-delay-requires-clause-fits
cat-delay-requires-clause-fits g t c =
    let trees = trees_of c.args.program.now.nodes in
    let n = c.count_of-by.ensures in
    turn_counts trees _ c.args.ask.now _ _ c.of-round.ensures c.since.ensures c.requires.visit _ n.bound n.value _ c.earlier.ensures
    _ _ c.len-from.result c.len-from.ensures c.in_ok-in_cycle.ensures.items

pub cat-returns : goal.cat-returns
cat-returns g t c =
    let trees = trees_of c.args.program.now.nodes in
    let n = c.count_of-by.ensures in
    record {
      items = turn_there trees _ c.args.ask.now _ _ c.of-round.ensures c.since.ensures c.requires.visit _ n.bound n.value _ c.earlier.ensures
          _ _ c.len-from.result c.len-from.ensures c.in_ok-in_cycle.ensures.items _ c.delay.ensures;
      exact = one_above _ _ _ _ c.in_ok-in_cycle.ensures.exact
          (turn_visits trees _ c.args.ask.now _ _ c.of-round.ensures c.since.ensures c.requires.visit _ n.bound n.value _ c.earlier.ensures);
      few = omega (arith, c.in_cycle.ensures.few, round_load trees _ _ _ c.of-round.ensures);
    }

-- ---- a cycle turned round
pub rev-count_turned-round-requires : goal.rev-count_turned-round-requires
rev-count_turned-round-requires g t c =
    unit_small _ c.args.ask.now.unit _ c.requires.visit.count

pub rev-turned-requires-clause-stop : goal.rev-turned-requires-clause-stop
rev-turned-requires-clause-stop g t c =
    let n = c.count_turned-round.ensures in
    let round = turn_span (λ k. read c.count_turned-round.result -ℤ k) c.args.ask.now.arc in
    (ends_fit _ _ _ (rev_child _ c.args.ask.now c.requires.visit _ n.bound n.value round refl).count).0

pub rev-turned-requires-clause-start : goal.rev-turned-requires-clause-start
rev-turned-requires-clause-start g t c =
    let n = c.count_turned-round.ensures in
    let round = turn_span (λ k. read c.count_turned-round.result -ℤ k) c.args.ask.now.arc in
    (ends_fit _ _ _ (rev_child _ c.args.ask.now c.requires.visit _ n.bound n.value round refl).count).1

pub rev-in_cycle-requires : goal.rev-in_cycle-requires
rev-in_cycle-requires g t c = λ κs alive.
    let n = c.count_turned-round.ensures in
    (omega (arith, c.decreases), (alive, (c.requires.row, rev_child _ c.args.ask.now c.requires.visit _ n.bound n.value _ c.turned.ensures)))

pub rev-returns-in_err-in_cycle : goal.rev-returns-in_err-in_cycle
rev-returns-in_err-in_cycle g t c =
    ran_out _ _ _ _ c.from_residual.result _ _ _ _ _ c.from_residual.ensures.1 (omega (arith, c.in_cycle.ensures.few))

pub rev-turn-requires-clause-from : goal.rev-turn-requires-clause-from
rev-turn-requires-clause-from g t c =
    added_within _ _ _ _ c.len-from.result c.len-from.ensures c.in_ok-in_cycle.ensures.items

pub rev-turn-requires-clause-fits : goal.rev-turn-requires-clause-fits
rev-turn-requires-clause-fits g t c =
    let n = c.count_turned-round.ensures in
    rev_counts _ c.args.ask.now c.requires.visit _ n.bound n.value _ c.turned.ensures _ _ c.len-from.result c.len-from.ensures c.in_ok-in_cycle.ensures.items

pub rev-returns : goal.rev-returns
rev-returns g t c =
    let n = c.count_turned-round.ensures in
    record {
      items = rev_there _ c.args.ask.now c.requires.visit _ n.bound n.value _ c.turned.ensures
          _ _ c.len-from.result c.len-from.ensures c.in_ok-in_cycle.ensures.items _ c.turn.ensures;
      exact = for_child _ _ _ _ c.in_ok-in_cycle.ensures.exact (rev_visits _ c.args.ask.now c.requires.visit _ n.bound n.value _ c.turned.ensures);
      few = omega (arith, c.in_cycle.ensures.few);
    }

-- ---- what an arc has of a cycle
pub of_cycle-of_cycle-requires-clause-positive : goal.of_cycle-of_cycle-requires-clause-positive
of_cycle-of_cycle-requires-clause-positive g t c =
    c.requires.may.unit.positive

pub of_cycle-of_cycle-requires-clause-small : goal.of_cycle-of_cycle-requires-clause-small
of_cycle-of_cycle-requires-clause-small g t c =
    unit_small _ c.args.unit _ c.requires.may

pub of_cycle-of_cycle-requires-clause-last : goal.of_cycle-of_cycle-requires-clause-last
of_cycle-of_cycle-requires-clause-last g t c =
    (cycle_small _ c.args.cycle (may_cycle _ (arc_of c.args.unit c.args.arc) c.args.cycle c.requires.may.may c.requires.cycle)).1

pub of_cycle-in_cycle-requires : goal.of_cycle-in_cycle-requires
of_cycle-in_cycle-requires g t c = λ κs alive.
    let arcs = c.meet.ensures.arcs c.args.unit c.requires.may.unit.positive in
    let met = met_cycle c.args.cycle c.args.unit c.of_cycle.result c.args.arc _ _ c.of_cycle.ensures.arc arcs c.in-Some.is in
    let visit = cut_visit _ c.args.cycle c.args.unit (arc_of c.args.unit c.args.arc) c.in-Some.arc c.requires.may met in
    (omega (arith, c.decreases), (alive, (c.requires.row, visit)))

pub of_cycle-returns-in-Some : goal.of_cycle-returns-in-Some
of_cycle-returns-in-Some g t c =
    let here = tree_at c.args.program.now.nodes c.args.id in
    let arcs = c.meet.ensures.arcs c.args.unit c.requires.may.unit.positive in
    let met = met_cycle c.args.cycle c.args.unit c.of_cycle.result c.args.arc _ _ c.of_cycle.ensures.arc arcs c.in-Some.is in
    record {
      items = on_ok_weaker c.in_cycle.result (adds_as c.args.unit _ _ _ _ (ap (over_met (cyc here)) (sym met))) c.in_cycle.ensures.items;
      exact = IfOk-equal c.in_cycle.result _ _ _ c.in_cycle.ensures.exact (ap (λ o. c.args.steps.now + if_met (visits here c.args.cycle) o) (sym met));
      few = c.in_cycle.ensures.few;
    }

pub of_cycle-returns-in-None : goal.of_cycle-returns-in-None
of_cycle-returns-in-None g t c =
    let here = tree_at c.args.program.now.nodes c.args.id in
    let arcs = c.meet.ensures.arcs c.args.unit c.requires.may.unit.positive in
    let met = met_cycle c.args.cycle c.args.unit c.of_cycle.result c.args.arc _ _ c.of_cycle.ensures.arc arcs c.in-None.is in
    record {
      items = adds_as c.args.unit _ _ _ _ (ap (over_met (cyc here)) (sym met)) (adds_none c.args.unit _ _ refl);
      exact = none_taken _ _ (ap (if_met (visits here c.args.cycle)) met);
      few = omega arith;
    }

-- ---- an arc, cycle by cycle
pub in_arc-cycle_of-first-requires-clause-positive : goal.in_arc-cycle_of-first-requires-clause-positive
in_arc-cycle_of-first-requires-clause-positive g t c =
    c.requires.may.unit.positive

pub in_arc-cycle_of-first-requires-clause-small : goal.in_arc-cycle_of-first-requires-clause-small
in_arc-cycle_of-first-requires-clause-small g t c =
    unit_small _ c.args.unit _ c.requires.may

pub in_arc-cycle_of-first-requires-clause-in_range : goal.in_arc-cycle_of-first-requires-clause-in_range
in_arc-cycle_of-first-requires-clause-in_range g t c =
    start_in_range _ c.args.unit c.args.arc _ c.requires.may (start_read c.start.result c.args.arc c.start.ensures.value c.start.ensures.span)

pub in_arc-cycle_not_before-requires-clause-positive : goal.in_arc-cycle_not_before-requires-clause-positive
in_arc-cycle_not_before-requires-clause-positive g t c =
    c.requires.may.unit.positive

pub in_arc-cycle_not_before-requires-clause-small : goal.in_arc-cycle_not_before-requires-clause-small
in_arc-cycle_not_before-requires-clause-small g t c =
    unit_small _ c.args.unit _ c.requires.may

pub in_arc-cycle_not_before-requires-clause-in_range : goal.in_arc-cycle_not_before-requires-clause-in_range
in_arc-cycle_not_before-requires-clause-in_range g t c =
    stop_in_range _ c.args.unit c.args.arc _ c.requires.may (stop_read c.stop.result c.args.arc c.stop.ensures.value c.stop.ensures.span)

pub in_arc-count_to-count-requires : goal.in_arc-count_to-count-requires
in_arc-count_to-count-requires g t c =
    let from = first_cycle c.args.unit c.args.arc _ _ c.cycle_of-first.ensures c.start.ensures.value c.start.ensures.span in
    let to = last_cycle c.args.unit c.args.arc _ _ c.cycle_not_before.ensures c.stop.ensures.value c.stop.ensures.span in
    rw (from, to) (in_order_of (arc_of c.args.unit c.args.arc) c.requires.may.may.asked.is_arc)

pub in_arc-of_cycle-requires : goal.in_arc-of_cycle-requires
in_arc-of_cycle-requires g t c = λ κs alive.
    let from = first_cycle c.args.unit c.args.arc _ _ c.cycle_of-first.ensures c.start.ensures.value c.start.ensures.span in
    let to = last_cycle c.args.unit c.args.arc _ _ c.cycle_not_before.ensures c.stop.ensures.value c.stop.ensures.span in
    let stop : floor (frac c.args.arc.start c.args.unit) +ℤ pos c.count_to-count.result ≡ ceil (frac c.args.arc.stop c.args.unit) =
    ap (λ z. z +ℤ pos c.count_to-count.result) (sym from) ∙ c.count_to-count.ensures ∙ to in
    let at = c.later.ensures ∙ ap (λ z. z +ℤ pos c.loop-k.k) from in
    let cycle = kth_cycle (arc_of c.args.unit c.args.arc) c.loop-k.k c.count_to-count.result stop (omega (arith, c.loop-k-test.true)) in
    (omega (arith, c.decreases), (alive, (c.requires.row, (c.requires.may, subst (IsCycleOf (arc_of c.args.unit c.args.arc)) (sym at) cycle))))

pub in_arc-loop-k-init : goal.in_arc-loop-k-init
in_arc-loop-k-init g t c = record { items = adds_none c.args.unit _ _ refl; exact = omega arith; few = omega arith }

pub in_arc-loop-k-preserved : goal.in_arc-loop-k-preserved
in_arc-loop-k-preserved g t c =
    let here = tree_at c.args.program.now.nodes c.args.id in
    let a = arc_of c.args.unit c.args.arc in
    let first = floor a.start in
    let k = c.loop-k.k in
    let from = first_cycle c.args.unit c.args.arc _ _ c.cycle_of-first.ensures c.start.ensures.value c.start.ensures.span in
    let at = c.later.ensures ∙ ap (λ z. z +ℤ pos c.loop-k.k) from in
    let has = λ (z : ℤ). over_met (cyc here) (meet (cycle_arc z) a) in
    let takes = λ (z : ℤ). if_met (visits here z) (meet (cycle_arc z) a) in
    let more = cycles_more has first k c.later.result (flat_map has (whole_range first k)) _ _ at refl refl refl in
    record {
      items = adds_as c.args.unit _ _ _ _ more (adds_both c.args.unit _ _ _ _ _ c.loop-k.invariant.items c.in_ok-of_cycle.ensures.items);
      exact = in_turn _ _ _ _ _ _ c.loop-k.invariant.exact c.in_ok-of_cycle.ensures.exact (one_cycle_more takes first k c.later.result at);
      few = once_more _ _ _ _ _ c.loop-k.invariant.few c.of_cycle.ensures.few;
    }

pub in_arc-returns : goal.in_arc-returns
in_arc-returns g t c =
    let here = tree_at c.args.program.now.nodes c.args.id in
    let a = arc_of c.args.unit c.args.arc in
    let from = first_cycle c.args.unit c.args.arc _ _ c.cycle_of-first.ensures c.start.ensures.value c.start.ensures.span in
    let to = last_cycle c.args.unit c.args.arc _ _ c.cycle_not_before.ensures c.stop.ensures.value c.stop.ensures.span in
    let stop : floor (frac c.args.arc.start c.args.unit) +ℤ pos c.count_to-count.result ≡ ceil (frac c.args.arc.stop c.args.unit) =
    ap (λ z. z +ℤ pos c.count_to-count.result) (sym from) ∙ c.count_to-count.ensures ∙ to in
    let all : c.count_to-count.result ≡ c.loop-k.k = omega (arith, c.loop-k-test.false, c.loop-k.auto.k-end) in
    let most : c.loop-k.k ≤ c.count_to-count.result = omega (arith, c.loop-k.auto.k-end) in
    let counted = subst (λ n. c.loop-k.k ≤ n) (cycles_counted a c.count_to-count.result stop) most in
    record {
      items = adds_as c.args.unit _ _ _ _ (over_made a c.count_to-count.result c.loop-k.k stop all (cyc here) (proper here c.requires.may.may.room.valid))
          c.loop-k.invariant.items;
      exact = c.loop-k.invariant.exact ∙ ap (λ n. c.args.steps.now + n) (visits_made a c.count_to-count.result c.loop-k.k stop all here);
      few = no_more _ _ _ _ _ c.loop-k.invariant.few counted;
    }

pub in_arc-returns-in_err-of_cycle : goal.in_arc-returns-in_err-of_cycle
in_arc-returns-in_err-of_cycle g t c =
    let a = arc_of c.args.unit c.args.arc in
    let from = first_cycle c.args.unit c.args.arc _ _ c.cycle_of-first.ensures c.start.ensures.value c.start.ensures.span in
    let to = last_cycle c.args.unit c.args.arc _ _ c.cycle_not_before.ensures c.stop.ensures.value c.stop.ensures.span in
    let stop : floor (frac c.args.arc.start c.args.unit) +ℤ pos c.count_to-count.result ≡ ceil (frac c.args.arc.stop c.args.unit) =
    ap (λ z. z +ℤ pos c.count_to-count.result) (sym from) ∙ c.count_to-count.ensures ∙ to in
    let next : c.loop-k.k + 1 ≤ c.count_to-count.result = omega (arith, c.loop-k-test.true) in
    ran_out _ _ _ _ c.from_residual.result _ _ _ _ _ c.from_residual.ensures.1
    (no_more _ _ _ _ _ (once_more _ _ _ _ _ c.loop-k.invariant.few c.of_cycle.ensures.few)
    (subst (λ n. c.loop-k.k + 1 ≤ n) (cycles_counted a c.count_to-count.result stop) next))

-- ---- a cycle, by the kind of the node

pub in_cycle-returns-in-Silence : goal.in_cycle-returns-in-Silence
in_cycle-returns-in-Silence g t c =
    let at = tree_there _ c.args.program.now.nodes c.args.id _ c.table.ensures c.get.ensures.tree in
    of_leaf _ _ _ _ c.in-Silence.is _ at c.args.ask.now _ _ _ _ c.tick.ensures refl (omega arith)
    (adds_as _ _ _ _ _ (sym (over-silence (arc_of c.args.ask.now.unit c.args.ask.now.arc))) (adds_none _ _ _ refl))

pub in_cycle-returns-in-Pure : goal.in_cycle-returns-in-Pure
in_cycle-returns-in-Pure g t c =
    let at = tree_there _ c.args.program.now.nodes c.args.id _ c.table.ensures c.get.ensures.tree in
    of_leaf c.add_leaf.result _ _ _ c.in-Pure.is _ at c.args.ask.now _ _ _ _ c.tick.ensures refl (omega arith) c.add_leaf.ensures

pub in_cycle-returns-in-Fast : goal.in_cycle-returns-in-Fast
in_cycle-returns-in-Fast g t c =
    let at = tree_there _ c.args.program.now.nodes c.args.id _ c.table.ensures c.get.ensures.tree in
    of_node c.fast.result _ _ _ c.in-Fast.is _ at c.args.ask.now _ _ _ _ c.tick.ensures _ c.fast.ensures

pub in_cycle-returns-in-Cat : goal.in_cycle-returns-in-Cat
in_cycle-returns-in-Cat g t c =
    let at = tree_there _ c.args.program.now.nodes c.args.id _ c.table.ensures c.get.ensures.tree in
    of_node c.cat.result _ _ _ c.in-Cat.is _ at c.args.ask.now _ _ _ _ c.tick.ensures _ c.cat.ensures

pub in_cycle-returns-in-Rev : goal.in_cycle-returns-in-Rev
in_cycle-returns-in-Rev g t c =
    let at = tree_there _ c.args.program.now.nodes c.args.id _ c.table.ensures c.get.ensures.tree in
    of_node c.rev.result _ _ _ c.in-Rev.is _ at c.args.ask.now _ _ _ _ c.tick.ensures _ c.rev.ensures

pub in_cycle-returns-in-Shift : goal.in_cycle-returns-in-Shift
in_cycle-returns-in-Shift g t c =
    let at = tree_there _ c.args.program.now.nodes c.args.id _ c.table.ensures c.get.ensures.tree in
    of_node c.shift.result _ _ _ c.in-Shift.is _ at c.args.ask.now _ _ _ _ c.tick.ensures _ c.shift.ensures

pub in_cycle-returns-in-When : goal.in_cycle-returns-in-When
in_cycle-returns-in-When g t c =
    let at = tree_there _ c.args.program.now.nodes c.args.id _ c.table.ensures c.get.ensures.tree in
    let trees = trees_of c.args.program.now.nodes in
    let may = may_node _ _ c.in-When.is trees _ c.args.ask.now at c.requires.visit in
    of_node c.in_cycle.result _ _ _ c.in-When.is _ at c.args.ask.now _ _ _ _ c.tick.ensures _
    (when_visit trees c.in-When.modulus c.in-When.test c.in-When.yes c.in-When.no _ c.args.ask.now c.one_of-child.ensures may _ _ _ _ _ c.in_cycle.ensures)

pub in_cycle-fast-requires : goal.in_cycle-fast-requires
in_cycle-fast-requires g t c = λ κs alive.
    let at = tree_there _ c.args.program.now.nodes c.args.id _ c.table.ensures c.get.ensures.tree in
    let below : rows_needed (c.in-Fast.child ∷ []) ≤ c.args.id.index = rows_under _ _ c.in-Fast.is _ c.get.ensures.valid in
    let may = may_node _ _ c.in-Fast.is (trees_of c.args.program.now.nodes) _ c.args.ask.now at c.requires.visit in
    (omega (arith, c.decreases), (alive, (omega (arith, c.requires.row), may)))

pub in_cycle-rev-requires : goal.in_cycle-rev-requires
in_cycle-rev-requires g t c = λ κs alive.
    let at = tree_there _ c.args.program.now.nodes c.args.id _ c.table.ensures c.get.ensures.tree in
    let below : rows_needed (c.in-Rev.child ∷ []) ≤ c.args.id.index = rows_under _ _ c.in-Rev.is _ c.get.ensures.valid in
    let may = may_node _ _ c.in-Rev.is (trees_of c.args.program.now.nodes) _ c.args.ask.now at c.requires.visit in
    (omega (arith, c.decreases), (alive, (omega (arith, c.requires.row), may)))

pub in_cycle-shift-requires : goal.in_cycle-shift-requires
in_cycle-shift-requires g t c = λ κs alive.
    let at = tree_there _ c.args.program.now.nodes c.args.id _ c.table.ensures c.get.ensures.tree in
    let below : rows_needed (c.in-Shift.child ∷ []) ≤ c.args.id.index = rows_under _ _ c.in-Shift.is _ c.get.ensures.valid in
    let may = may_node _ _ c.in-Shift.is (trees_of c.args.program.now.nodes) _ c.args.ask.now at c.requires.visit in
    (omega (arith, c.decreases), (alive, (omega (arith, c.requires.row), may)))

pub in_cycle-cat-requires : goal.in_cycle-cat-requires
in_cycle-cat-requires g t c = λ κs alive.
    let at = tree_there _ c.args.program.now.nodes c.args.id _ c.table.ensures c.get.ensures.tree in
    let below : rows_needed c.in-Cat.children ≤ c.args.id.index = rows_under _ _ c.in-Cat.is _ c.get.ensures.valid in
    let may = may_node _ _ c.in-Cat.is (trees_of c.args.program.now.nodes) _ c.args.ask.now at c.requires.visit in
    let is = is_node _ _ c.in-Cat.is _ c.get.ensures.valid in
    (omega (arith, c.decreases), (alive, (is.counts.0, (is.counts.1, (omega (arith, c.requires.row), may)))))

pub in_cycle-in_cycle-requires : goal.in_cycle-in_cycle-requires
in_cycle-in_cycle-requires g t c = λ κs alive.
    let at = tree_there _ c.args.program.now.nodes c.args.id _ c.table.ensures c.get.ensures.tree in
    let trees = trees_of c.args.program.now.nodes in
    let below : rows_needed (c.in-When.yes ∷ c.in-When.no ∷ []) ≤ c.args.id.index = rows_under _ _ c.in-When.is _ c.get.ensures.valid in
    let may = may_node _ _ c.in-When.is (trees_of c.args.program.now.nodes) _ c.args.ask.now at c.requires.visit in
    let own = when_child trees c.in-When.modulus c.in-When.test c.in-When.yes c.in-When.no _ c.args.ask.now c.one_of-child.ensures may in
    let here = when_row trees c.in-When.modulus c.in-When.test c.in-When.yes c.in-When.no _
    (record { cycle = c.args.ask.now.cycle; arc = arc_of c.args.ask.now.unit c.args.ask.now.arc }) c.one_of-child.ensures in
    (omega (arith, c.decreases, here), (alive, (omega (arith, c.requires.row, here), own)))

pub in_cycle-add_leaf-requires-clause-positive : goal.in_cycle-add_leaf-requires-clause-positive
in_cycle-add_leaf-requires-clause-positive g t c =
    c.requires.visit.count.unit.positive

pub in_cycle-add_leaf-requires-clause-small : goal.in_cycle-add_leaf-requires-clause-small
in_cycle-add_leaf-requires-clause-small g t c =
    unit_small _ c.args.ask.now.unit _ c.requires.visit.count

pub in_cycle-add_leaf-requires-clause-last : goal.in_cycle-add_leaf-requires-clause-last
in_cycle-add_leaf-requires-clause-last g t c =
    (cycle_fits _ c.args.ask.now c.requires.visit).1

pub in_cycle-add_leaf-requires-clause-arc : goal.in_cycle-add_leaf-requires-clause-arc
in_cycle-add_leaf-requires-clause-arc g t c =
    c.requires.visit.count.may.asked.is_arc

pub in_cycle-add_leaf-requires-clause-inside : goal.in_cycle-add_leaf-requires-clause-inside
in_cycle-add_leaf-requires-clause-inside g t c =
    c.requires.visit.inside

-- ---- a row's node
pub in_cycle-time_cat-requires : goal.in_cycle-time_cat-requires
in_cycle-time_cat-requires g t c = λ κs alive.
    let nodes = c.args.program.now.nodes in
    let tree = subst (λ (ts : List Node). tree_at ts c.args.id ≡ tree_of (trees_of ts) c.get.result.now) c.table.ensures c.get.ensures.tree in
    let below : rows_needed (map (λ (s : StepValue). s.child) c.in-TimeCat.list) ≤ c.args.id.index = rows_under _ _ c.in-TimeCat.is _ c.get.ensures.valid in
    let is = is_node _ _ c.in-TimeCat.is _ c.get.ensures.valid in
    let may = subst (λ t. MayCountVisit t c.args.ask.now) (tree ∙ ap (tree_of (trees_of nodes)) c.in-TimeCat.is) c.requires.visit in
    (omega (arith, c.decreases), (alive, (omega (arith, c.requires.row), (is.shares.1, may))))

pub in_cycle-returns-in-TimeCat : goal.in_cycle-returns-in-TimeCat
in_cycle-returns-in-TimeCat g t c =
    let nodes = c.args.program.now.nodes in
    let tree = subst (λ (ts : List Node). tree_at ts c.args.id ≡ tree_of (trees_of ts) c.get.result.now) c.table.ensures c.get.ensures.tree in
    of_node c.time_cat.result (trees_of nodes) _ _ c.in-TimeCat.is _ tree c.args.ask.now _ _ _ _ c.tick.ensures _ c.time_cat.ensures

-- ---- the steps one after another
pub time_cat-nonzero_div-width : goal.time_cat-nonzero_div-width
time_cat-nonzero_div-width g t c =
    let ask = c.args.ask.now in
    let trees = trees_of c.args.program.now.nodes in
    let steps = c.args.list.now in
    let W = c.total_weight-total.result in
    let has = has_width trees steps W c.total_weight-total.ensures ask c.requires.visit (ask.unit / W) refl in
    search (has.some, arith)

pub time_cat-of-passed-requires-clause-some : goal.time_cat-of-passed-requires-clause-some
time_cat-of-passed-requires-clause-some g t c =
    let ask = c.args.ask.now in
    let trees = trees_of c.args.program.now.nodes in
    let steps = c.args.list.now in
    let W = c.total_weight-total.result in
    let has = has_width trees steps W c.total_weight-total.ensures ask c.requires.visit (ask.unit / W) refl in
    has.some

pub time_cat-of-passed-requires-clause-width : goal.time_cat-of-passed-requires-clause-width
time_cat-of-passed-requires-clause-width g t c =
    let ask = c.args.ask.now in
    let trees = trees_of c.args.program.now.nodes in
    let steps = c.args.list.now in
    let W = c.total_weight-total.result in
    let has = has_width trees steps W c.total_weight-total.ensures ask c.requires.visit (ask.unit / W) refl in
    has.width

pub time_cat-of-passed-requires-clause-small : goal.time_cat-of-passed-requires-clause-small
time_cat-of-passed-requires-clause-small g t c =
    let ask = c.args.ask.now in
    let trees = trees_of c.args.program.now.nodes in
    let steps = c.args.list.now in
    let W = c.total_weight-total.result in
    let has = has_width trees steps W c.total_weight-total.ensures ask c.requires.visit (ask.unit / W) refl in
    has.small

pub time_cat-of-passed-requires-clause-last : goal.time_cat-of-passed-requires-clause-last
time_cat-of-passed-requires-clause-last g t c =
    let ask = c.args.ask.now in
    let trees = trees_of c.args.program.now.nodes in
    let steps = c.args.list.now in
    let W = c.total_weight-total.result in
    let has = has_width trees steps W c.total_weight-total.ensures ask c.requires.visit (ask.unit / W) refl in
    has.last

pub time_cat-of-passed-requires-clause-inside : goal.time_cat-of-passed-requires-clause-inside
time_cat-of-passed-requires-clause-inside g t c =
    let ask = c.args.ask.now in
    let trees = trees_of c.args.program.now.nodes in
    let steps = c.args.list.now in
    let W = c.total_weight-total.result in
    let has = has_width trees steps W c.total_weight-total.ensures ask c.requires.visit (ask.unit / W) refl in
    has.inside

pub time_cat-loop-index-init : goal.time_cat-loop-index-init
time_cat-loop-index-init g t c =
    let ask = c.args.ask.now in
    let trees = trees_of c.args.program.now.nodes in
    let steps = c.args.list.now in
    let W = c.total_weight-total.result in
    let a = arc_of ask.unit ask.arc in
    let first = c.passed-first.result in
    let has = has_width trees steps W c.total_weight-total.ensures ask c.requires.visit (ask.unit / W) refl in
    let counts = subst (λ u. ArePassedCounts ask.cycle W (arc_of u ask.arc) c.of-passed.result) has.same c.of-passed.ensures in
    let passed = c.of-passed.result in
    let ended : 0 + weight_sum (take first steps) ≤ passed.ended = omega (arith, c.passed-first.ensures.ended) in
    let skipped = first_skipped ask.cycle W a passed.ended passed.begun has.some counts trees 0 first steps ended in
    let unvisited = first_unvisited trees ask.cycle a W passed.ended passed.begun has.some counts 0 first steps ended in
    let at : c.weight_before-before.result ≡ 0 + weight_sum (take first steps) = omega (arith, c.weight_before-before.ensures) in
    let rest = steps_of trees (drop first steps) in
    record {
      made = [];
      items = adds_none ask.unit c.args.out.now c.args.out.now refl;
      events = ap (λ n. steps_over W n (shares_of rest) ask.cycle a) at ∙ sym skipped;
      weights = omega (arith, at, c.total_weight-total.ensures, sum_by-take-drop (λ (s : StepValue). s.weight) steps first);
      exact = ap (λ n. c.args.steps.now + n) (ap (λ n. visits_of_steps rest W n ask.cycle a) at ∙ sym unvisited);
      few = omega (arith, fewer_loads trees first steps);
    }

pub time_cat-in_step-requires : goal.time_cat-in_step-requires
time_cat-in_step-requires g t c = λ κs alive.
    let ask = c.args.ask.now in
    let trees = trees_of c.args.program.now.nodes in
    let steps = c.args.list.now in
    let W = c.total_weight-total.result in
    let a = arc_of ask.unit ask.arc in
    let i = c.loop-index.index in
    let o = c.loop-index.before in
    let s = c.get-entry.result.now in
    let within : i < length steps = search rules in
    let at = c.get-entry.ensures s in
    let visit = may_visit (tree.TimeCat (steps_of trees steps)) ask c.requires.visit in
    let here = at_step trees steps W c.total_weight-total.ensures c.requires.weights i s within at o c.loop-index.invariant.weights in
    let has = has_width trees steps W c.total_weight-total.ensures ask c.requires.visit (ask.unit / W) refl in
    let whole = tree.TimeCat (steps_of trees steps) in
    let made = time_cat_over trees steps (time_ask ask) W c.total_weight-total.ensures visit in
    let all = subst (Each (HasEnds InRange)) (sym made) (over_fits whole a visit.may) in
    let fits = step_in_range trees steps i s within at W o ask.cycle a c.loop-index.invariant.made _ all c.loop-index.invariant.events in
    let counts = at_counts trees steps W c.total_weight-total.ensures ask c.requires.visit (ask.unit / W) has i s within at o here.fits fits in
    let row_here : s.child.index < length c.args.program.now.nodes = omega (arith, c.requires.rows, here.below) in
    (omega (arith, c.decreases, here.below), (alive, (row_here, (counts.is, counts.may))))

pub time_cat-loop-index-preserved : goal.time_cat-loop-index-preserved
time_cat-loop-index-preserved g t c =
    let ask = c.args.ask.now in
    let trees = trees_of c.args.program.now.nodes in
    let steps = c.args.list.now in
    let W = c.total_weight-total.result in
    let a = arc_of ask.unit ask.arc in
    let i = c.loop-index.index in
    let o = c.loop-index.before in
    let s = c.get-entry.result.now in
    let within : i < length steps = search rules in
    let at = c.get-entry.ensures s in
    let has = has_width trees steps W c.total_weight-total.ensures ask c.requires.visit (ask.unit / W) refl in
    let before = c.loop-index.invariant in
    let all = steps_over W 0 (shares_of (steps_of trees steps)) ask.cycle a in
    let taken = c.args.steps.now + visits_of_steps (steps_of trees steps) W 0 ask.cycle a in
    let most = loads (bounds_of_steps (steps_of trees steps)) in
    let new = map (moved (squeezed ask.cycle o s.weight W)) (over_met (cyc (row trees s.child)) (step_ask ask.cycle o s.weight W a)) in
    let step = in_unit (row trees s.child) ask.cycle o s.weight W ask.arc (ask.unit / W * W) ask.unit has.same (Ok c.in_ok-in_step.field-0)
    c.loop-index.out c.in_step.new.out c.loop-index.steps c.in_step.new.steps (bounds (row trees s.child)).load c.in_ok-in_step.ensures in
    record {
      made = before.made ++ new;
      items = adds_both ask.unit c.args.out.now c.loop-index.out c.in_step.new.out before.made new before.items step.items;
      events = steps_more trees steps i s within at W o ask.cycle a before.made (before.made ++ new) all refl before.events;
      weights = before_more trees steps i s within at W o before.weights;
      exact = step_visited trees steps i s within at W o ask.cycle a c.loop-index.steps c.in_step.new.steps taken step.exact before.exact;
      few = step_more trees i c.args.steps.now c.loop-index.steps c.in_step.new.steps most steps s within at before.few c.in_step.ensures.few;
    }

pub time_cat-returns-in_err-in_step : goal.time_cat-returns-in_err-in_step
time_cat-returns-in_err-in_step g t c =
    let trees = trees_of c.args.program.now.nodes in
    let steps = c.args.list.now in
    let s = c.get-entry.result.now in
    let most = loads (bounds_of_steps (steps_of trees steps)) in
    let more = step_more trees c.loop-index.index c.args.steps.now c.loop-index.steps c.in_step.new.steps most steps s (search rules)
    (c.get-entry.ensures s) c.loop-index.invariant.few c.in_step.ensures.few in
    ran_out _ _ _ _ c.from_residual.result _ _ _ _ _ c.from_residual.ensures.1 (omega (arith, more))

pub time_cat-overflow_add-before : goal.time_cat-overflow_add-before
time_cat-overflow_add-before g t c =
    let trees = trees_of c.args.program.now.nodes in
    let steps = c.args.list.now in
    let W = c.total_weight-total.result in
    let i = c.loop-index.index in
    let o = c.loop-index.before in
    let s = c.get-entry.result.now in
    let within : i < length steps = search rules in
    let at = c.get-entry.ensures s in
    let here = at_step trees steps W c.total_weight-total.ensures c.requires.weights i s within at o c.loop-index.invariant.weights in
    search (here.fits, here.few, arith)

pub time_cat-returns-after-loop-index : goal.time_cat-returns-after-loop-index
time_cat-returns-after-loop-index g t c =
    let ask = c.args.ask.now in
    let trees = trees_of c.args.program.now.nodes in
    let steps = c.args.list.now in
    let W = c.total_weight-total.result in
    let a = arc_of ask.unit ask.arc in
    let i = c.loop-index.index in
    let o = c.loop-index.before in
    let end : length steps ≤ i = omega (arith, c.loop-index-test.false, c.len-index-end.ensures) in
    let none = ap (λ xs. visits_of_steps (steps_of trees xs) W o ask.cycle a) (drop_all i steps end) in
    let all = visits_of_sequence trees ask.cycle a steps W c.total_weight-total.ensures in
    let visit = may_visit (tree.TimeCat (steps_of trees steps)) ask c.requires.visit in
    let made = time_cat_over trees steps (time_ask ask) W c.total_weight-total.ensures visit in
    let over_all = steps_over W 0 (shares_of (steps_of trees steps)) ask.cycle a in
    let number = visits_of_steps (steps_of trees steps) W 0 ask.cycle a in
    let whole = tree.TimeCat (steps_of trees steps) in
    let done = steps_done trees steps i W o ask.cycle a c.loop-index.invariant.made over_all end c.loop-index.invariant.events in
    record {
      items = adds_as ask.unit c.args.out.now c.loop-index.out c.loop-index.invariant.made (over (cyc whole) a) (done ∙ made) c.loop-index.invariant.items;
      exact = all_taken c.args.steps.now c.loop-index.steps (visits_of_steps (steps_of trees (drop i steps)) W o ask.cycle a) number (visits whole ask.cycle a)
          c.loop-index.invariant.exact none all;
      few = omega arith;
    }

pub time_cat-returns-then-passed-before : goal.time_cat-returns-then-passed-before
time_cat-returns-then-passed-before g t c =
    let ask = c.args.ask.now in
    let trees = trees_of c.args.program.now.nodes in
    let steps = c.args.list.now in
    let W = c.total_weight-total.result in
    let a = arc_of ask.unit ask.arc in
    let i = c.loop-index.index in
    let o = c.loop-index.before in
    let has = has_width trees steps W c.total_weight-total.ensures ask c.requires.visit (ask.unit / W) refl in
    let counts = subst (λ u. ArePassedCounts ask.cycle W (arc_of u ask.arc) c.of-passed.result) has.same c.of-passed.ensures in
    let passed = c.of-passed.result in
    let past : passed.begun ≤ o = omega (arith, c.if-passed-before.true) in
    let left = drop i steps in
    let visit = may_visit (tree.TimeCat (steps_of trees steps)) ask c.requires.visit in
    let made = time_cat_over trees steps (time_ask ask) W c.total_weight-total.ensures visit in
    let all = steps_over W 0 (shares_of (steps_of trees steps)) ask.cycle a in
    let number = visits_of_steps (steps_of trees steps) W 0 ask.cycle a in
    let whole = tree.TimeCat (steps_of trees steps) in
    let done = rest_skipped ask.cycle W a passed.ended passed.begun has.some counts o (shares_of (steps_of trees left)) c.loop-index.invariant.made all past
    c.loop-index.invariant.events in
    record {
      items = adds_as ask.unit c.args.out.now c.loop-index.out c.loop-index.invariant.made (over (cyc whole) a) (done ∙ made) c.loop-index.invariant.items;
      exact = all_taken c.args.steps.now c.loop-index.steps (visits_of_steps (steps_of trees left) W o ask.cycle a) number
          (visits whole ask.cycle a) c.loop-index.invariant.exact
          (rest_unvisited trees ask.cycle a W passed.ended passed.begun has.some counts o left past)
          (visits_of_sequence trees ask.cycle a steps W c.total_weight-total.ensures);
      few = omega arith;
    }

-- ---- a step
pub in_step-in_share-requires : goal.in_step-in_share-requires
in_step-in_share-requires g t c = λ κs alive. (omega (arith, c.decreases), (alive, (c.requires.row, (c.requires.step, c.requires.may))))

pub in_step-returns-in-Pure : goal.in_step-returns-in-Pure
in_step-returns-in-Pure g t c =
    let at = tree_there _ c.args.program.now.nodes c.args.child _ c.table.ensures c.get.ensures.tree in
    leaf_visited c.args.step.now c.args.arc _ c.in-Pure.leaf _ _ _ _ _ (at ∙ ap (tree_of (trees_of c.args.program.now.nodes)) c.in-Pure.is)
    c.add_leaf_step.ensures

pub in_share-in_cycle-requires : goal.in_share-in_cycle-requires
in_share-in_cycle-requires g t c = λ κs alive.
    let s = c.args.step.now in
    let asked : asked_step s.cycle s.before s.weight s.total s.width c.args.arc ≡ Some c.in-Some.own = search rules in
    (omega (arith, c.decreases), (alive, (c.requires.row, c.requires.may.visit c.in-Some.own asked)))

pub in_share-delay-requires-in-Some-clause-from : goal.in_share-delay-requires-in-Some-clause-from
in_share-delay-requires-in-Some-clause-from g t c =
    delayed_within c.args.step.now c.requires.step _ _ _ c.len-from.result c.len-from.ensures c.in_ok-in_cycle-in-Some.ensures.items

pub in_share-delay-requires-in-Some-clause-fits : goal.in_share-delay-requires-in-Some-clause-fits
in_share-delay-requires-in-Some-clause-fits g t c =
    let s = c.args.step.now in
    let asked : asked_step s.cycle s.before s.weight s.total s.width c.args.arc ≡ Some c.in-Some.own = search rules in
    delayed_fit s c.requires.step _ _ _ c.len-from.result _ c.len-from.ensures c.in_ok-in_cycle-in-Some.ensures.items
    (delay_is s c.requires.step c.delay.result c.delay.ensures.value) (c.requires.may.in_range c.in-Some.own asked)

pub in_share-returns-in_ok-in_cycle-in-Some : goal.in_share-returns-in_ok-in_cycle-in-Some
in_share-returns-in_ok-in_cycle-in-Some g t c =
    let s = c.args.step.now in
    let asked : asked_step s.cycle s.before s.weight s.total s.width c.args.arc ≡ Some c.in-Some.own = search rules in
    step_gains (tree_at c.args.program.now.nodes c.args.child) s c.args.arc c.requires.step (Some c.in-Some.own) asked _ _ _ _ _ _ (record {
      items = delayed_adds s c.requires.step _ _ _ c.len-from.result _ c.len-from.ensures c.in_ok-in_cycle-in-Some.ensures.items
          (delay_is s c.requires.step c.delay.result c.delay.ensures.value) _ c.delay-in-Some.ensures;
      exact = c.in_ok-in_cycle-in-Some.ensures.exact;
      few = c.in_cycle.ensures.few;
    })

pub in_share-returns-in-None : goal.in_share-returns-in-None
in_share-returns-in-None g t c =
    let s = c.args.step.now in
    let asked : asked_step s.cycle s.before s.weight s.total s.width c.args.arc ≡ None = search rules in
    step_gains (tree_at c.args.program.now.nodes c.args.child) s c.args.arc c.requires.step None asked _ _ _ _ _ _ (record {
      items = adds_none _ _ _ refl;
      exact = omega arith;
      few = omega arith;
    })

-- ---- a row's node
pub in_cycle-stack-requires : goal.in_cycle-stack-requires
in_cycle-stack-requires g t c = λ κs alive.
    let below : rows_needed (c.in-Stack.children) ≤ c.args.id.index = rows_under _ _ c.in-Stack.is _ c.get.ensures.valid in
    let at = at_row _ c.args.program.now.nodes c.table.ensures c.args.id c.get.result.now c.get.ensures.tree in
    let may = may_count_node _ _ c.in-Stack.is (trees_of c.args.program.now.nodes) _ _ at c.requires.visit in
    (omega (arith, c.decreases), (alive, (omega (arith, c.requires.row), may)))

pub in_cycle-pick-requires : goal.in_cycle-pick-requires
in_cycle-pick-requires g t c = λ κs alive.
    let below : rows_needed (c.in-Pick.selector ∷ c.in-Pick.children) ≤ c.args.id.index = rows_under _ _ c.in-Pick.is _ c.get.ensures.valid in
    let at = at_row _ c.args.program.now.nodes c.table.ensures c.args.id c.get.result.now c.get.ensures.tree in
    let may = may_count_node _ _ c.in-Pick.is (trees_of c.args.program.now.nodes) _ _ at c.requires.visit in
    (omega (arith, c.decreases), (alive, (omega (arith, c.requires.row), may)))

pub in_cycle-ply-requires : goal.in_cycle-ply-requires
in_cycle-ply-requires g t c = λ κs alive.
    let below : rows_needed (c.in-Ply.child ∷ []) ≤ c.args.id.index = rows_under _ _ c.in-Ply.is _ c.get.ensures.valid in
    let at = at_row _ c.args.program.now.nodes c.table.ensures c.args.id c.get.result.now c.get.ensures.tree in
    let may = may_count_node _ _ c.in-Ply.is (trees_of c.args.program.now.nodes) _ _ at c.requires.visit in
    (omega (arith, c.decreases), (alive, (omega (arith, c.requires.row), may)))

pub in_cycle-gate-requires : goal.in_cycle-gate-requires
in_cycle-gate-requires g t c = λ κs alive.
    let below : rows_needed (c.in-Gate.child ∷ []) ≤ c.args.id.index = rows_under _ _ c.in-Gate.is _ c.get.ensures.valid in
    let at = at_row _ c.args.program.now.nodes c.table.ensures c.args.id c.get.result.now c.get.ensures.tree in
    let may = may_count_node _ _ c.in-Gate.is (trees_of c.args.program.now.nodes) _ _ at c.requires.visit in
    (omega (arith, c.decreases), (alive, (omega (arith, c.requires.row), may)))

pub in_cycle-returns-in-Stack : goal.in_cycle-returns-in-Stack
in_cycle-returns-in-Stack g t c =
    let at = at_row _ c.args.program.now.nodes c.table.ensures c.args.id c.get.result.now c.get.ensures.tree in
    of_node c.stack.result _ _ _ c.in-Stack.is _ at c.args.ask.now _ _ _ _ c.tick.ensures _ c.stack.ensures

pub in_cycle-returns-in-Pick : goal.in_cycle-returns-in-Pick
in_cycle-returns-in-Pick g t c =
    let at = at_row _ c.args.program.now.nodes c.table.ensures c.args.id c.get.result.now c.get.ensures.tree in
    of_node c.pick.result _ _ _ c.in-Pick.is _ at c.args.ask.now _ _ _ _ c.tick.ensures _ c.pick.ensures

pub in_cycle-returns-in-Ply : goal.in_cycle-returns-in-Ply
in_cycle-returns-in-Ply g t c =
    let at = at_row _ c.args.program.now.nodes c.table.ensures c.args.id c.get.result.now c.get.ensures.tree in
    of_node c.ply.result _ _ _ c.in-Ply.is _ at c.args.ask.now _ _ _ _ c.tick.ensures _ c.ply.ensures

pub in_cycle-returns-in-Gate : goal.in_cycle-returns-in-Gate
in_cycle-returns-in-Gate g t c =
    let at = at_row _ c.args.program.now.nodes c.table.ensures c.args.id c.get.result.now c.get.ensures.tree in
    of_node c.gate.result _ _ _ c.in-Gate.is _ at c.args.ask.now _ _ _ _ c.tick.ensures _ c.gate.ensures

-- ---- choices
pub pick-in_cycle-requires : goal.pick-in_cycle-requires
pick-in_cycle-requires g t c = λ κs alive.
    (omega (arith, c.decreases), (alive, (omega (arith, c.requires.rows), pick_selector _ _ c.args.ask.now c.requires.visit)))

pub pick-chosen-requires : goal.pick-chosen-requires
pick-chosen-requires g t c = λ κs alive.
    let may = each_may _ _ c.args.ask.now c.requires.visit _ c.in_cycle.new.out c.new-selected.ensures c.in_ok-in_cycle.ensures.items in
    let inside = each_inside _ _ c.args.ask.now c.requires.visit _ c.in_cycle.new.out c.new-selected.ensures c.in_ok-in_cycle.ensures.items in
    (omega (arith, c.decreases), (alive, (omega (arith, c.requires.rows), (may, inside))))

pub pick-returns : goal.pick-returns
pick-returns g t c =
    pick_gains _ _ c.args.ask.now c.requires.visit _ c.in_cycle.new.out c.new-selected.ensures c.in_ok-in_cycle.ensures.items
    c.chosen.result _ _ _ _ _ c.in_ok-in_cycle.ensures.exact c.in_cycle.ensures.few c.chosen.ensures

pub pick-returns-in_err-in_cycle : goal.pick-returns-in_err-in_cycle
pick-returns-in_err-in_cycle g t c =
    ran_out c.args.ask.now.unit _ _ _ c.from_residual.result _ _ _ _ _ c.from_residual.ensures.1 (omega (arith, c.in_cycle.ensures.few))

pub chosen-choice-requires : goal.chosen-choice-requires
chosen-choice-requires g t c = λ κs alive.
    let within : c.loop-i.i < length c.args.selected.now = search rules in
    let may = each_of (λ (i : Item). MayCountEach (in_order (trees_of c.args.program.now.nodes) c.args.children.now) c.args.unit (arc_of c.args.unit i.part))
    c.args.selected.now c.loop-i.i c.get.result.now within (c.get.ensures _) c.requires.may in
    let inside = each_of (λ (i : Item). IsInside (arc_of c.args.unit i.part) (cycle_arc c.args.cycle)) c.args.selected.now c.loop-i.i
    c.get.result.now within (c.get.ensures _) c.requires.inside in
    (omega (arith, c.decreases), (alive, (c.requires.rows, (may, inside))))

pub chosen-loop-i-init : goal.chosen-loop-i-init
chosen-loop-i-init g t c = record { items = adds_none c.args.unit c.args.out.now _ refl; exact = omega arith; few = omega arith }

pub chosen-loop-i-preserved : goal.chosen-loop-i-preserved
chosen-loop-i-preserved g t c =
    let trees = in_order (trees_of c.args.program.now.nodes) c.args.children.now in
    let u = c.args.unit in
    let events = events_of u c.args.selected.now in
    let event = event_of u c.get.result.now in
    let i = c.loop-i.i in
    let within : i < length c.args.selected.now = search rules in
    let inside = event_within u c.args.selected.now i within in
    let at = event_at u c.args.selected.now i c.get.result.now within (c.get.ensures c.get.result.now) in
    record {
      items = adds_next u (λ (e : Event). picked (patterns trees) e.part e.value) events i event c.args.out.now c.loop-i.out c.choice.new.out inside at
          c.loop-i.invariant.items c.in_ok-choice.ensures.items;
      exact = next_taken (visits_at trees c.args.cycle) events i c.args.steps.now c.loop-i.steps c.loop-i.invariant.exact event c.choice.new.steps inside at
          c.in_ok-choice.ensures.exact;
      few = once_more c.args.steps.now i (loads (bounds_of trees)) c.loop-i.steps c.choice.new.steps c.loop-i.invariant.few c.choice.ensures.few;
    }

pub chosen-returns : goal.chosen-returns
chosen-returns g t c =
    let trees = in_order (trees_of c.args.program.now.nodes) c.args.children.now in
    let u = c.args.unit in
    let events = events_of u c.args.selected.now in
    let past = event_past u c.args.selected.now c.loop-i.i (omega arith) in
    record {
      items = adds_all u (λ (e : Event). picked (patterns trees) e.part e.value) events c.loop-i.i c.args.out.now c.loop-i.out past
          c.loop-i.invariant.items;
      exact = each_taken (visits_at trees c.args.cycle) events c.loop-i.i c.args.steps.now c.loop-i.steps c.loop-i.invariant.exact past;
      few = no_more _ _ _ (loads (bounds_of trees)) _ c.loop-i.invariant.few (omega arith);
    }

pub chosen-returns-in_err-choice : goal.chosen-returns-in_err-choice
chosen-returns-in_err-choice g t c =
    let most = loads (bounds_of (in_order (trees_of c.args.program.now.nodes) c.args.children.now)) in
    let within : c.loop-i.i < length c.args.selected.now = search rules in
    let more = once_more c.args.steps.now c.loop-i.i most c.loop-i.steps c.choice.new.steps c.loop-i.invariant.few c.choice.ensures.few in
    ran_out c.args.unit _ _ _ c.from_residual.result _ _ _ _ _ c.from_residual.ensures.1 (no_more _ _ _ most _ more (omega (arith, within)))

pub choice-in_cycle-requires : goal.choice-in_cycle-requires
choice-in_cycle-requires g t c = λ κs alive.
    let ids = c.args.children.now in
    let within : c.in-Index.index < length ids = search rules in
    let row_here = row_of ids c.in-Index.index c.get-child.result.now within (c.get-child.ensures _) in
    let here = child_of (trees_of c.args.program.now.nodes) ids c.in-Index.index c.get-child.result.now within (c.get-child.ensures _) in
    let child = tree_at c.args.program.now.nodes c.get-child.result.now in
    let count = subst (λ (i : Item). MayCount child c.args.unit (arc_of c.args.unit i.part)) (sym c.selected.view_is)
    (c.requires.may c.in-Index.index child here) in
    let inside = subst (λ (i : Item). IsInside (arc_of c.args.unit i.part) (cycle_arc c.args.cycle)) (sym c.selected.view_is) c.requires.inside in
    (omega (arith, c.decreases), (alive, (omega (arith, c.requires.rows), record { count = count; inside = inside })))

pub choice-returns-in-Index : goal.choice-returns-in-Index
choice-returns-in-Index g t c =
    let within : c.in-Index.index < length c.args.children.now = search rules in
    chosen_gains (trees_of c.args.program.now.nodes) c.args.unit c.args.cycle c.args.children.now c.in-Index.index _ _ c.selected.view_is
    (sym c.leaf.ensures ∙ c.in-Index.is)
    c.get-child.result.now c.in_cycle.result _ _ _ _ within (c.get-child.ensures _) c.in_cycle.ensures

pub choice-returns-in_default : goal.choice-returns-in_default
choice-returns-in_default g t c =
    let past : length c.args.children.now ≤ c.in-Index.index = omega (arith, c.len.ensures, c.if-index-len.false) in
    none_gained (trees_of c.args.program.now.nodes) c.args.unit c.args.cycle c.args.children.now c.in-Index.index _ _ c.selected.view_is
    (sym c.leaf.ensures ∙ c.in-Index.is) _ _ past

-- ---- children together
pub stack-in_cycle-requires : goal.stack-in_cycle-requires
stack-in_cycle-requires g t c = λ κs alive.
    let none : NodeId = record { index = 0 } in
    let below = row_at c.as_slice-child-items.result.now c.loop-child.child-index none c.loop-child-test.true in
    let rows = ap rows_needed c.as_slice-child-items.ensures in
    let visit =
    stack_child (trees_of c.args.program.now.nodes) c.args.children.now c.as_slice-child-items.result.now c.as_slice-child-items.ensures c.args.ask.now
    c.requires.visit c.loop-child.child-index none c.loop-child-test.true in
    (omega (arith, c.decreases, rows, below), (alive, (omega (arith, c.requires.rows, rows, below), visit)))

pub stack-loop-child-init : goal.stack-loop-child-init
stack-loop-child-init g t c = record { items = adds_none c.args.ask.now.unit c.args.out.now _ refl; exact = refl; few = omega arith }

pub stack-loop-child-preserved : goal.stack-loop-child-preserved
stack-loop-child-preserved g t c =
    let trees = trees_of c.args.program.now.nodes in
    let ids = c.as_slice-child-items.result.now in
    let i = c.loop-child.child-index in
    let u = c.args.ask.now.unit in
    let a = arc_of u c.args.ask.now.arc in
    let none : NodeId = record { index = 0 } in
    let within = c.loop-child-test.true in
    record {
      items = adds_as u _ _ _ _ (flat_one_more (λ id. over (cyc (row trees id)) a) ids i none within)
          (adds_both u c.args.out.now c.loop-child.out c.in_cycle.new.out _ _ c.loop-child.invariant.items c.in_ok-in_cycle.ensures.items);
      exact = child_visited trees c.args.ask.now.cycle a ids i none c.loop-child.steps c.in_cycle.new.steps _ within c.loop-child.invariant.exact
          c.in_ok-in_cycle.ensures.exact;
      few = child_more trees i c.args.steps.now c.loop-child.steps c.in_cycle.new.steps _ ids none within c.loop-child.invariant.few c.in_cycle.ensures.few;
    }

pub stack-returns-in_err-in_cycle : goal.stack-returns-in_err-in_cycle
stack-returns-in_err-in_cycle g t c =
    let trees = trees_of c.args.program.now.nodes in
    let ids = c.as_slice-child-items.result.now in
    let none : NodeId = record { index = 0 } in
    let more = child_more trees c.loop-child.child-index _ _ _ _ ids none c.loop-child-test.true c.loop-child.invariant.few c.in_cycle.ensures.few in
    ran_out c.args.ask.now.unit _ _ _ c.from_residual.result _ _ _ _ _ c.from_residual.ensures.1
    (omega (arith, more, ap (λ xs. loads (bounds_of (in_order trees xs))) c.as_slice-child-items.ensures))

pub stack-returns : goal.stack-returns
stack-returns g t c =
    let so_far = c.loop-child.invariant in
    stack_gains (trees_of c.args.program.now.nodes) c.args.children.now c.as_slice-child-items.result.now c.as_slice-child-items.ensures c.args.ask.now
    c.requires.visit _ _ c.loop-child.child-index _ _ c.loop-child-test.false so_far.items so_far.exact so_far.few

-- ---- pieces
pub ply-in_cycle-requires : goal.ply-in_cycle-requires
ply-in_cycle-requires g t c = λ κs alive.
    (omega (arith, c.decreases), (alive, (c.requires.row, ply_child c.args.times _ c.args.ask.now c.requires.visit)))

pub ply-add_plied-requires-clause-some : goal.ply-add_plied-requires-clause-some
ply-add_plied-requires-clause-some g t c = c.requires.visit.count.may.room.valid.0

pub ply-add_plied-requires-clause-exact : goal.ply-add_plied-requires-clause-exact
ply-add_plied-requires-clause-exact g t c =
    ply_pieces c.args.times _ c.args.ask.now c.requires.visit _ c.in_cycle.new.out c.new-items.ensures c.in_ok-in_cycle.ensures.items

pub ply-returns : goal.ply-returns
ply-returns g t c =
    ply_gains c.args.times _ c.args.ask.now c.requires.visit _ c.in_cycle.new.out c.new-items.ensures c.in_ok-in_cycle.ensures.items c.add_plied.result
    _ _ _ _ c.in_ok-in_cycle.ensures.exact c.in_cycle.ensures.few c.add_plied.ensures

pub ply-returns-in_err-in_cycle : goal.ply-returns-in_err-in_cycle
ply-returns-in_err-in_cycle g t c =
    ran_out c.args.ask.now.unit _ _ _ c.from_residual.result _ _ _ _ _ c.from_residual.ensures.1 (omega (arith, c.in_cycle.ensures.few))

-- ---- what starts in a part of its cycle
pub gate-in_cycle-requires : goal.gate-in_cycle-requires
gate-in_cycle-requires g t c = λ κs alive.
    let p = c.args.window in
    (omega (arith, c.decreases), (alive, (c.requires.row, gate_child p.from p.to p.inside _ c.args.ask.now c.requires.visit)))

pub gate-gate-requires-clause-place : goal.gate-gate-requires-clause-place
gate-gate-requires-clause-place g t c =
    let p = c.args.window in
    gate_within p.from p.to p.inside _ c.args.ask.now c.requires.visit _ _ c.len-from.result c.len-from.ensures c.in_ok-in_cycle.ensures.items

pub gate-gate-requires-clause-positive : goal.gate-gate-requires-clause-positive
gate-gate-requires-clause-positive g t c = c.requires.visit.count.unit.positive

pub gate-gate-requires-clause-small : goal.gate-gate-requires-clause-small
gate-gate-requires-clause-small g t c = unit_small _ c.args.ask.now.unit _ c.requires.visit.count

pub gate-returns : goal.gate-returns
gate-returns g t c =
    let p = c.args.window in
    gate_gains p.from p.to p.inside _ c.args.ask.now c.requires.visit _ _ c.len-from.result c.len-from.ensures c.in_ok-in_cycle.ensures.items _ _ _
    c.in_ok-in_cycle.ensures.exact c.in_cycle.ensures.few c.gate.ensures

pub gate-returns-in_err-in_cycle : goal.gate-returns-in_err-in_cycle
gate-returns-in_err-in_cycle g t c =
    ran_out c.args.ask.now.unit _ _ _ c.from_residual.result _ _ _ _ _ c.from_residual.ensures.1 (omega (arith, c.in_cycle.ensures.few))

-- ---- a cycle, by the kind of the node
pub in_cycle-returns-in-Join : goal.in_cycle-returns-in-Join
in_cycle-returns-in-Join g t c =
    let tree = subst (λ rows. tree_at rows c.args.id ≡ tree_of (trees_of rows) c.get.result.now) c.table.ensures c.get.ensures.tree in
    of_node c.join.result (trees_of c.args.program.now.nodes) _ _ c.in-Join.is _ tree c.args.ask.now _ _ _ _ c.tick.ensures _ c.join.ensures

pub in_cycle-join-requires : goal.in_cycle-join-requires
in_cycle-join-requires g t c = λ κs alive.
    let trees = trees_of c.args.program.now.nodes in
    let below : rows_needed (c.in-Join.left ∷ c.in-Join.right ∷ []) ≤ c.args.id.index = rows_under _ _ c.in-Join.is _ c.get.ensures.valid in
    let tree = subst (λ rows. tree_at rows c.args.id ≡ tree_of (trees_of rows) c.get.result.now) c.table.ensures c.get.ensures.tree in
    let same = tree ∙ ap (tree_of trees) c.in-Join.is in
    let visit = subst (λ e. MayCountVisit e c.args.ask.now) same c.requires.visit in
    let room = c.requires.visit.count.may.room in
    let grid = (c.grid_of.ensures.is _ room.on_grid room.not_too_fine).value ∙ ap (λ e. (bounds e).grid) same in
    (omega (arith, c.decreases, below), (alive, (omega (arith, c.requires.row, below), (grid, visit))))

-- ---- joins, by the side that gives the wholes
pub join-join_one-requires : goal.join-join_one-requires
join-join_one-requires g t c =
    λ κs alive. (omega (arith, c.decreases), (alive, (c.in_default.not-Both, (c.requires.rows, (c.requires.grid, c.requires.visit)))))

pub join-join_both-requires : goal.join-join_both-requires
join-join_both-requires g t c = λ κs alive. (omega (arith, c.decreases), (alive, (c.in-Both.is, (c.requires.rows, c.requires.visit))))

-- ---- both sides give the wholes
pub join_both-in_cycle-requires : goal.join_both-in_cycle-requires
join_both-in_cycle-requires g t c = λ κs alive.
    let visit = left_asked c.args.program.now.nodes c.args.rows.now c.args.ask.now c.requires.visit c.requires.both in
    (omega (arith, c.decreases), (alive, (omega (arith, c.requires.rows), visit)))

pub join_both-in_cycle-requires-2 : goal.join_both-in_cycle-requires-2
join_both-in_cycle-requires-2 g t c = λ κs alive.
    let visit = right_asked c.args.program.now.nodes c.args.rows.now c.args.ask.now c.requires.visit c.requires.both in
    (omega (arith, c.decreases), (alive, (omega (arith, c.requires.rows), visit)))

pub join_both-returns : goal.join_both-returns
join_both-returns g t c =
    both_gained c.args.program.now.nodes c.args.rows.now c.args.ask.now c.requires.visit c.requires.both c.add_joined.result
    _ _ _ _ _ _ _ _ _ c.new-lefts.ensures c.new-rights.ensures c.in_ok-in_cycle.ensures c.in_ok-in_cycle-2.ensures c.add_joined.ensures

-- ---- one side gives the wholes
pub join_one-in_cycle-requires : goal.join_one-in_cycle-requires
join_one-in_cycle-requires g t c = λ κs alive.
    let below = giver_below c.args.rows.now _ c.giver.ensures in
    let visit = giver_asked c.args.program.now.nodes c.args.rows.now c.args.ask.now c.requires.visit _ c.giver.ensures in
    (omega (arith, c.decreases, below), (alive, (omega (arith, c.requires.rows, below), visit)))

pub join_one-returns-in_err-in_cycle : goal.join_one-returns-in_err-in_cycle
join_one-returns-in_err-in_cycle g t c =
    giver_ran_out c.args.program.now.nodes c.args.rows.now c.args.ask.now c.requires.visit c.requires.one _ c.giver.ensures
    c.from_residual.result _ c.from_residual.ensures.1 _ _ _ _ c.in_cycle.ensures.few

pub join_one-nonzero_div-own : goal.join_one-nonzero_div-own
join_one-nonzero_div-own g t c = (own_unit (joined_tree c.args.program.now.nodes c.args.rows.now) _ _ c.requires.visit.count
    (record { unit = c.args.grid; times = c.args.ask.now.unit / c.args.grid }) c.requires.grid refl).unit

pub join_one-by_wholes-requires : goal.join_one-by_wholes-requires
join_one-by_wholes-requires g t c = λ κs alive.
    let own : JoinUnit = record { unit = c.args.grid; times = c.args.ask.now.unit / c.args.grid } in
    let e = joined_tree c.args.program.now.nodes c.args.rows.now in
    let joins = own_unit e _ _ c.requires.visit.count own c.requires.grid refl in
    let makes = own_makes e _ _ c.requires.visit.count own c.requires.grid refl in
    let may = givers_asked c.args.program.now.nodes c.args.rows.now c.args.ask.now c.requires.visit c.requires.one _ c.giver.ensures _ _ _ _
    c.new-givers.ensures c.in_ok-in_cycle.ensures own joins c.requires.grid makes in
    let below = other_below c.args.rows.now in
    (omega (arith, c.decreases, below), (alive, (omega (arith, c.requires.rows, below), (joins, may))))

pub join_one-add_with_leaf-requires-clause-small : goal.join_one-add_with_leaf-requires-clause-small
join_one-add_with_leaf-requires-clause-small g t c =
    unit_small _ c.args.ask.now.unit _ c.requires.visit.count

pub join_one-add_with_leaf-requires-clause-last : goal.join_one-add_with_leaf-requires-clause-last
join_one-add_with_leaf-requires-clause-last g t c =
    (cycle_fits _ c.args.ask.now c.requires.visit).1

pub join_one-returns-in-Pure : goal.join_one-returns-in-Pure
join_one-returns-in-Pure g t c =
    let nodes = c.args.program.now.nodes in
    let at = tree_there _ nodes c.other.result _ c.table.ensures c.get.ensures.tree ∙ ap (tree_of (trees_of nodes)) c.in-Pure.is in
    leaf_gained nodes c.args.rows.now c.args.ask.now c.requires.visit c.requires.one _ c.giver.ensures _ _ _ _
    c.new-givers.ensures c.in_ok-in_cycle.ensures c.in-Pure.leaf (ap (tree_at nodes) (sym c.other.ensures) ∙ at)
    c.add_with_leaf.result _ _ _ c.add_with_leaf.ensures

pub join_one-returns-in_default : goal.join_one-returns-in_default
join_one-returns-in_default g t c =
    let own : JoinUnit = record { unit = c.args.grid; times = c.args.ask.now.unit / c.args.grid } in
    let makes = own_makes (joined_tree c.args.program.now.nodes c.args.rows.now) _ _ c.requires.visit.count own c.requires.grid refl in
    one_gained c.args.program.now.nodes c.args.rows.now c.args.ask.now c.requires.visit c.requires.one _ c.giver.ensures _ _ _ _
    c.new-givers.ensures c.in_ok-in_cycle.ensures own makes c.by_wholes.result _ _ _ c.by_wholes.ensures

-- ---- what the other side has in the wholes
pub by_wholes-coarser-whole-requires-clause-start : goal.by_wholes-coarser-whole-requires-clause-start
by_wholes-coarser-whole-requires-clause-start g t c =
    let asked = asked_at c.args.program.now.nodes c.args.rows.now c.args.cycle c.args.own c.args.givers.now c.requires.may _ c.other-other.ensures
    c.loop-i.i _ _ (search rules) (c.get.ensures _) c.behind-givers.view_is in
    asked.start

pub by_wholes-coarser-whole-requires-clause-stop : goal.by_wholes-coarser-whole-requires-clause-stop
by_wholes-coarser-whole-requires-clause-stop g t c =
    let asked = asked_at c.args.program.now.nodes c.args.rows.now c.args.cycle c.args.own c.args.givers.now c.requires.may _ c.other-other.ensures
    c.loop-i.i _ _ (search rules) (c.get.ensures _) c.behind-givers.view_is in
    asked.stop

pub by_wholes-of_cycle-requires : goal.by_wholes-of_cycle-requires
by_wholes-of_cycle-requires g t c = λ κs alive.
    let asked = asked_at c.args.program.now.nodes c.args.rows.now c.args.cycle c.args.own c.args.givers.now c.requires.may _ c.other-other.ensures
    c.loop-i.i _ _ (search rules) (c.get.ensures _) c.behind-givers.view_is in
    let count = whole_may _ c.args.cycle c.args.own c.requires.own _ _ c.coarser-whole.ensures asked in
    let cycle = whole_meets _ c.args.cycle c.args.own c.requires.own _ _ c.coarser-whole.ensures asked in
    let place = ap (λ (id : NodeId). id.index) (sym c.other-other.ensures) in
    (omega (arith, c.decreases, place), (alive, (omega (arith, c.requires.row, place), (count, cycle))))

pub by_wholes-refine-requires-clause-fits : goal.by_wholes-refine-requires-clause-fits
by_wholes-refine-requires-clause-fits g t c =
    let asked = asked_at c.args.program.now.nodes c.args.rows.now c.args.cycle c.args.own c.args.givers.now c.requires.may _ c.other-other.ensures
    c.loop-i.i _ _ (search rules) (c.get.ensures _) c.behind-givers.view_is in
    others_fit _ c.args.cycle c.args.own c.requires.own _ _ c.coarser-whole.ensures _ _ _ _ c.clear.ensures c.in_ok-of_cycle.ensures asked

pub by_wholes-loop-i-init : goal.by_wholes-loop-i-init
by_wholes-loop-i-init g t c = record { items = adds_none _ c.args.out.now _ refl; exact = omega arith; few = omega arith }

pub by_wholes-loop-i-preserved : goal.by_wholes-loop-i-preserved
by_wholes-loop-i-preserved g t c =
    let e = tree_at c.args.program.now.nodes c.other-other.result in
    let own = c.args.own in
    let j = c.args.rows.now in
    let x = c.get-in-loop-i.result.now in
    let within : c.loop-i.i < length c.args.givers.now = search rules in
    let whole = same_whole c.args.givers.now c.loop-i.i x _ _ c.behind-givers.view_is (c.get.ensures x) (c.get-in-loop-i.ensures x) in
    let made = made_next e c.args.cycle own c.requires.own _ _ c.coarser-whole.ensures _ _ _ _ c.clear.ensures c.in_ok-of_cycle.ensures x whole
    j.side j.op _ _ _ c.refine.ensures c.in_ok-add_with_each.ensures in
    let taken = taken_next e c.args.cycle own c.requires.own _ _ c.coarser-whole.ensures _ _ _ _ c.clear.ensures c.in_ok-of_cycle.ensures x whole in
    let at = c.get-in-loop-i.ensures x in
    record {
      items = made_more j.side j.op e c.args.cycle (own.unit * own.times) c.args.givers.now c.loop-i.i x within at _ _ _ c.loop-i.invariant.items made;
      exact = taken_more j.side j.op e c.args.cycle (own.unit * own.times) c.args.givers.now c.loop-i.i x within at _ _ _ c.loop-i.invariant.exact taken;
      few = few_more j.side j.op e c.args.cycle (own.unit * own.times) c.args.givers.now c.loop-i.i x within at _ _ _
          c.loop-i.invariant.few c.of_cycle.ensures.few;
    }

pub by_wholes-returns : goal.by_wholes-returns
by_wholes-returns g t c =
    let nodes = c.args.program.now.nodes in
    let j = c.args.rows.now in
    let u = c.args.own.unit * c.args.own.times in
    let end : c.loop-i.i ≡ length c.args.givers.now = omega (arith, c.loop-i-test.false, c.loop-i.auto.i-end, c.len-i-end.ensures) in
    let all = all_gained j.side j.op (tree_at nodes c.other-other.result) c.args.cycle u c.args.givers.now c.loop-i.i end _ _ _ _
    c.loop-i.invariant.items c.loop-i.invariant.exact c.loop-i.invariant.few in
    of_other nodes j _ c.other-other.ensures c.args.cycle u c.args.givers.now _ _ _ _ all
