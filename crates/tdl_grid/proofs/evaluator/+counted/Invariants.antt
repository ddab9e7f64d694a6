use Rattle.std.proofs.Common.{◌≡◌, List, ◌+◌, ◌*◌, ◌≤◌, [], ◌∷◌, ◌++◌, map, take, drop}
use Rattle.std.specs.List.{flat_map, sum_by}
use Rattle.tdl_fraction.specs.Rational.{floor}
use Rattle.tdl_fraction.specs.Arc.{meet}
use Rattle.tdl_event.specs.Event.{Event}
use Rattle.tdl_expr.specs.Passed.{weight_sum}
use Rattle.tdl_expr.specs.Rows.{row, in_order, weighted as steps_of, trees_of, tree_at}
use Rattle.tdl_expr.specs.Bounds.{bounds, bounds_of, bounds_of_steps, loads}
use Rattle.tdl_meaning.specs.Pattern.{over, cycle_arc, whole_range, picked}
use Rattle.tdl_meaning.specs.inside.Arcs.{over_met, steps_over}
use Rattle.tdl_meaning.specs.Meaning.{cyc, patterns, weighted as shares_of}
use Rattle.tdl_meaning.specs.inside.Children.{rows_needed}
use Rattle.tdl_visits.specs.Sides.{other_of}
use Rattle.tdl_visits.specs.inside.Joins.{made_by_whole, visits_by_whole}
use Rattle.tdl_visits.specs.inside.Visits.{visits, visits_of, visits_of_steps, visits_at, if_met}
use Rattle.tdl_grid.specs.Span.{arc_of}
use Rattle.tdl_grid.specs.Item.{Adds}
use Rattle.tdl_grid.specs.ItemLaws.{events_of}
use Rattle.tdl_grid.proofs.evaluator.+counted.Given as goal

abbrev pub decreases-in_arc : goal.decreases-in_arc
decreases-in_arc g l = 6 * l.id.index + 5

abbrev pub decreases-of_cycle : goal.decreases-of_cycle
decreases-of_cycle g l = 6 * l.id.index + 4

abbrev pub decreases-in_cycle : goal.decreases-in_cycle
decreases-in_cycle g l = 6 * l.id.index + 3

abbrev pub decreases-fast : goal.decreases-fast
decreases-fast g l = 6 * (l.child.index + 1)

abbrev pub decreases-rev : goal.decreases-rev
decreases-rev g l = 6 * (l.child.index + 1)

abbrev pub decreases-time_cat : goal.decreases-time_cat
decreases-time_cat g l = 6 * rows_needed (map (λ s. s.child) l.list.now)

abbrev pub decreases-in_step : goal.decreases-in_step
decreases-in_step g l = 6 * l.child.index + 5

abbrev pub decreases-in_share : goal.decreases-in_share
decreases-in_share g l = 6 * l.child.index + 4

abbrev pub decreases-cat : goal.decreases-cat
decreases-cat g l = 6 * rows_needed l.children.now

abbrev pub decreases-stack : goal.decreases-stack
decreases-stack g l = 6 * rows_needed l.children.now

abbrev pub decreases-pick : goal.decreases-pick
decreases-pick g l = 6 * rows_needed (l.selector ∷ l.children.now) + 2

abbrev pub decreases-chosen : goal.decreases-chosen
decreases-chosen g l = 6 * rows_needed l.children.now + 1

abbrev pub decreases-choice : goal.decreases-choice
decreases-choice g l = 6 * rows_needed l.children.now

abbrev pub decreases-shift : goal.decreases-shift
decreases-shift g l = 6 * (l.child.index + 1)

abbrev pub decreases-ply : goal.decreases-ply
decreases-ply g l = 6 * (l.child.index + 1)

abbrev pub decreases-gate : goal.decreases-gate
decreases-gate g l = 6 * (l.child.index + 1)

abbrev pub decreases-join : goal.decreases-join
decreases-join g l = 6 * rows_needed (l.rows.now.left ∷ l.rows.now.right ∷ []) + 2

abbrev pub decreases-join_one : goal.decreases-join_one
decreases-join_one g l = 6 * rows_needed (l.rows.now.left ∷ l.rows.now.right ∷ []) + 1

abbrev pub decreases-by_wholes : goal.decreases-by_wholes
decreases-by_wholes g l = 6 * ((other_of l.rows.now).index + 1)

abbrev pub decreases-join_both : goal.decreases-join_both
decreases-join_both g l = 6 * rows_needed (l.rows.now.left ∷ l.rows.now.right ∷ [])

abbrev pub invariant-in_arc-loop-k : goal.invariant-in_arc-loop-k
invariant-in_arc-loop-k g l =
    let e = tree_at l.program.nodes l.id in
    let a = arc_of l.unit l.arc in
    let cycles = whole_range (floor a.start) l.k in
    record {
      items : Adds l.unit l.fn.out l.out (flat_map (λ c. over_met (cyc e) (meet (cycle_arc c) a)) cycles);
      exact : l.steps ≡ l.fn.steps + sum_by (λ c. if_met (visits e c) (meet (cycle_arc c) a)) cycles;
      few : l.steps ≤ l.fn.steps + l.k * (bounds e).load;
    }

-- steps with what the children that are left take are what all take
abbrev pub invariant-stack-loop-child : goal.invariant-stack-loop-child
invariant-stack-loop-child g l =
    let trees = trees_of l.program.nodes in
    let all = in_order trees l.child-items in
    let left = in_order trees (drop l.child-index l.child-items) in
    let a = arc_of l.ask.unit l.ask.arc in
    record {
      items : Adds l.ask.unit l.fn.out l.out (flat_map (λ id. over (cyc (row trees id)) a) (take l.child-index l.child-items));
      exact : l.steps + visits_of left l.ask.cycle a ≡ l.fn.steps + visits_of all l.ask.cycle a;
      few : l.steps + loads (bounds_of left) ≤ l.fn.steps + loads (bounds_of all);
    }

-- what the steps so far give, with what those that are left give, is what all give; so it is with what they take
abbrev pub invariant-time_cat-loop-index : goal.invariant-time_cat-loop-index
invariant-time_cat-loop-index g l =
    let all = steps_of (trees_of l.program.nodes) l.list in
    let left = steps_of (trees_of l.program.nodes) (drop l.index l.list) in
    let a = arc_of l.ask.unit l.ask.arc in
    record {
      made : List Event;
      items : Adds l.ask.unit l.fn.out l.out made;
      events : made ++ steps_over l.total l.before (shares_of left) l.ask.cycle a ≡ steps_over l.total 0 (shares_of all) l.ask.cycle a;
      weights : l.before + weight_sum (drop l.index l.list) ≡ l.total;
      exact : l.steps + visits_of_steps left l.total l.before l.ask.cycle a ≡ l.fn.steps + visits_of_steps all l.total 0 l.ask.cycle a;
      few : l.steps + loads (bounds_of_steps left) ≤ l.fn.steps + loads (bounds_of_steps all);
    }

abbrev pub invariant-chosen-loop-i : goal.invariant-chosen-loop-i
invariant-chosen-loop-i g l =
    let trees = in_order (trees_of l.program.nodes) l.children in
    let selected = take l.i (events_of l.unit l.selected) in
    record {
      items : Adds l.unit l.fn.out l.out (flat_map (λ (e : Event). picked (patterns trees) e.part e.value) selected);
      exact : l.steps ≡ l.fn.steps + sum_by (visits_at trees l.cycle) selected;
      few : l.steps ≤ l.fn.steps + l.i * loads (bounds_of trees);
    }

abbrev pub invariant-by_wholes-loop-i : goal.invariant-by_wholes-loop-i
invariant-by_wholes-loop-i g l =
    let e = tree_at l.program.nodes l.other in
    let u = l.own.unit * l.own.times in
    let givers = take l.i (events_of u l.givers) in
    record {
      items : Adds u l.fn.out l.out (flat_map (made_by_whole l.rows.side l.rows.op e l.cycle) givers);
      exact : l.steps ≡ l.fn.steps + sum_by (visits_by_whole e l.cycle) givers;
      few : l.steps ≤ l.fn.steps + l.i * (bounds e).load;
    }
