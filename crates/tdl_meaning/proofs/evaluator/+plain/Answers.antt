use Rattle.std.proofs.Common.{rules, ◌≡◌, ◌<◌, ◌≤◌, pos, ◌+ℤ◌, ◌∷◌, ◌++◌, [], length, map, sym, ap, ◌∙◌, subst, arith, IfOk, true, false}
use Rattle.std.specs.List.{sum_by, flat_map}
use Rattle.tdl_fraction.specs.Rational.{whole, ◌-ℚ◌, ◌*ℚ◌, floor, ceil}
use Rattle.tdl_event.specs.Event.{Event, clip}
use Rattle.tdl_expr.specs.declared.ids.NodeId.{NodeId}
use Rattle.tdl_expr.specs.declared.steps.Step.{Step as StepValue}
use Rattle.tdl_expr.specs.Rows.{IsNode, in_order, row, tree_of, trees_of, tree_at, weighted as steps_of}
use Rattle.tdl_expr.specs.Tree as tree
use Rattle.tdl_meaning.specs.declared.motions.Motion.TheVariants.{Slower, Shifted}
use Rattle.tdl_meaning.specs.Pattern.{over, cycle_arc, picked, rounds}
use Rattle.tdl_meaning.specs.Meaning.{cyc, patterns}
use Rattle.tdl_meaning.specs.Proper.{Each}
use Rattle.tdl_meaning.specs.Ranges.{HasEnds}
use Rattle.tdl_meaning.specs.inside.Conditions.{MayAsk}
use Rattle.tdl_meaning.specs.Motions.{CanMove}
use Rattle.tdl_meaning.specs.Turns.{CanTurn}
use Rattle.tdl_meaning.specs.inside.Children.{rows_needed, MayAskEach}
use Rattle.tdl_meaning.specs.Kinds.{earlier, fragments}
use Rattle.tdl_meaning.specs.Pieces.{CanPlyWhole}
use Rattle.tdl_meaning.specs.Values.{meets, value_of}
use Rattle.tdl_meaning.specs.Pairs.{joined_pairs}
use Rattle.tdl_meaning.proofs.Times.{asked, asked_is_arc}
use Rattle.tdl_meaning.proofs.Condition.{may_cycle, may_fast, may_stack, arc_fits, may_shift, may_left_cycle, may_right_cycle}
use Rattle.tdl_meaning.proofs.Moving.{cycle_small, fast_moves, rev_moves, shift_moves, ply_cuts}
use Rattle.tdl_meaning.proofs.Rounds.{passed_worked_out}
use Rattle.tdl_meaning.proofs.Moves.{each_of}
use Rattle.tdl_meaning.proofs.PlainLemmas.{rows_below, row_at, row_of, child_at, child_of, step_row_at, flat_more, flat_all, cycles_more, in_order_of}
use Rattle.tdl_meaning.proofs.PlainLemmas.{kth_cycle, over_made}
use Rattle.tdl_meaning.proofs.PlainLemmas.{arc_made, silence_made, fast_made, rev_made, stack_made, may_turn, turn_moves, cat_made, pick_made}
use Rattle.tdl_meaning.proofs.PlainLemmas.{choice_made, no_choice, not_index}
use Rattle.tdl_meaning.proofs.PlainLemmas.{may_choose, time_cat_made, may_be_step, step_forward, steps_move, steps_more, weights_more}
use Rattle.tdl_meaning.proofs.PlainLemmas.{when_made, shift_made, ply_made, gate_made, join_made}
use Rattle.tdl_meaning.proofs.kinds.Shift.{earlier_is_arc}
use Rattle.tdl_meaning.proofs.evaluator.+plain.Goals.{choice-in_default-via-in-Index+else-index-len, choice-in_default-via-in_default}
use Rattle.tdl_meaning.proofs.evaluator.+plain.Goals as goal

-- ---- an arc, cycle by cycle
pub in_arc-count_to-count-requires : goal.in_arc-count_to-count-requires
in_arc-count_to-count-requires t c =
    rw (c.of-first.ensures, c.not_before.ensures, c.start.ensures.value, c.stop.ensures.value) (in_order_of c.args.arc c.start.ensures.arc)

pub in_arc-in_cycle-requires : goal.in_arc-in_cycle-requires
in_arc-in_cycle-requires t c =
    let stop : floor c.args.arc.start +ℤ pos c.count_to-count.result ≡ ceil c.args.arc.stop = search rules in
    let at : c.later.result ≡ floor c.args.arc.start +ℤ pos c.loop-k.k = search rules in
    let tree_here = tree_at c.args.table.now c.args.id in
    let cycle = kth_cycle c.args.arc c.loop-k.k c.count_to-count.result stop (search rules) in
    let may = may_cycle tree_here c.args.arc (floor c.args.arc.start +ℤ pos c.loop-k.k) c.requires.may cycle in
    (omega (arith, c.decreases), (c.requires.row, subst (λ z. MayAsk tree_here (cycle_arc z)) (sym at) may))

pub in_arc-loop-k-preserved : goal.in_arc-loop-k-preserved
in_arc-loop-k-preserved t c =
    let at : c.later.result ≡ floor c.args.arc.start +ℤ pos c.loop-k.k = search rules in
    cycles_more (λ z. clip c.args.arc (cyc (tree_at c.args.table.now c.args.id) z)) (floor c.args.arc.start) c.loop-k.k c.later.result
    c.loop-k.events c.clip.result c.append.new.self at (search rules) c.in_ok-append.ensures.ok c.loop-k.invariant

pub in_arc-returns : goal.in_arc-returns
in_arc-returns t c =
    let last : floor c.args.arc.start +ℤ pos c.count_to-count.result ≡ ceil c.args.arc.stop = search rules in
    let all : c.count_to-count.result ≡ c.loop-k.k = omega (arith, c.loop-k-test.false, c.loop-k.auto.k-end) in
    let stop = subst (λ k. floor c.args.arc.start +ℤ pos k ≡ ceil c.args.arc.stop) all last in
    over_made (cyc (tree_at c.args.table.now c.args.id)) c.args.arc c.loop-k.k c.loop-k.events stop c.loop-k.invariant

-- ---- a cycle, by the kind of the node
pub in_cycle-returns-in-Silence : goal.in_cycle-returns-in-Silence
in_cycle-returns-in-Silence t c =
    let node = c.get.ensures.tree ∙ ap (tree_of (trees_of c.args.table.now)) c.in-Silence.is in
    c.new.ensures ∙ silence_made c.args.cycle ∙ ap (λ e. cyc e c.args.cycle) (sym node)

pub in_cycle-fast-requires : goal.in_cycle-fast-requires
in_cycle-fast-requires t c =
    let node = c.get.ensures.tree ∙ ap (tree_of (trees_of c.args.table.now)) c.in-Fast.is in
    let is = subst (IsNode c.args.id.index) c.in-Fast.is c.get.ensures.valid in
    let below : rows_needed (c.in-Fast.child ∷ []) ≤ c.args.id.index = rows_below (c.in-Fast.child ∷ []) c.args.id.index is.below in
    (omega (arith, c.decreases), (omega (arith, c.requires.row), subst (λ e. MayAsk e (cycle_arc c.args.cycle)) node c.requires.may))

pub in_cycle-time_cat-requires : goal.in_cycle-time_cat-requires
in_cycle-time_cat-requires t c =
    let node = c.get.ensures.tree ∙ ap (tree_of (trees_of c.args.table.now)) c.in-TimeCat.is in
    let is = subst (IsNode c.args.id.index) c.in-TimeCat.is c.get.ensures.valid in
    let below = rows_below _ c.args.id.index is.below in
    let may = subst (λ e. MayAsk e (cycle_arc c.args.cycle)) node c.requires.may in
    (omega (arith, c.decreases), (omega (arith, c.requires.row), (is.shares.1, may)))

pub in_cycle-cat-requires : goal.in_cycle-cat-requires
in_cycle-cat-requires t c =
    let node = c.get.ensures.tree ∙ ap (tree_of (trees_of c.args.table.now)) c.in-Cat.is in
    let is = subst (IsNode c.args.id.index) c.in-Cat.is c.get.ensures.valid in
    let below = rows_below _ c.args.id.index is.below in
    let may = subst (λ e. MayAsk e (cycle_arc c.args.cycle)) node c.requires.may in
    (omega (arith, c.decreases), (is.counts.0, (is.counts.1, (omega (arith, c.requires.row), may))))

pub in_cycle-stack-requires : goal.in_cycle-stack-requires
in_cycle-stack-requires t c =
    let node = c.get.ensures.tree ∙ ap (tree_of (trees_of c.args.table.now)) c.in-Stack.is in
    let is = subst (IsNode c.args.id.index) c.in-Stack.is c.get.ensures.valid in
    let below = rows_below _ c.args.id.index is.below in
    (omega (arith, c.decreases), (omega (arith, c.requires.row), subst (λ e. MayAsk e (cycle_arc c.args.cycle)) node c.requires.may))

pub in_cycle-pick-requires : goal.in_cycle-pick-requires
in_cycle-pick-requires t c =
    let node = c.get.ensures.tree ∙ ap (tree_of (trees_of c.args.table.now)) c.in-Pick.is in
    let is = subst (IsNode c.args.id.index) c.in-Pick.is c.get.ensures.valid in
    let ids = c.in-Pick.selector ∷ c.in-Pick.children in
    let below : rows_needed ids ≤ c.args.id.index = rows_below ids c.args.id.index is.below in
    (omega (arith, c.decreases), (omega (arith, c.requires.row), subst (λ e. MayAsk e (cycle_arc c.args.cycle)) node c.requires.may))

pub in_cycle-shift-requires : goal.in_cycle-shift-requires
in_cycle-shift-requires t c =
    let node = c.get.ensures.tree ∙ ap (tree_of (trees_of c.args.table.now)) c.in-Shift.is in
    let is = subst (IsNode c.args.id.index) c.in-Shift.is c.get.ensures.valid in
    let below : rows_needed (c.in-Shift.child ∷ []) ≤ c.args.id.index = rows_below (c.in-Shift.child ∷ []) c.args.id.index is.below in
    (omega (arith, c.decreases), (omega (arith, c.requires.row), subst (λ e. MayAsk e (cycle_arc c.args.cycle)) node c.requires.may))

pub in_cycle-join-requires : goal.in_cycle-join-requires
in_cycle-join-requires t c =
    let node = c.get.ensures.tree ∙ ap (tree_of (trees_of c.args.table.now)) c.in-Join.is in
    let is = subst (IsNode c.args.id.index) c.in-Join.is c.get.ensures.valid in
    let ids = c.in-Join.left ∷ c.in-Join.right ∷ [] in
    let below : rows_needed ids ≤ c.args.id.index = rows_below ids c.args.id.index is.below in
    let may = subst (λ e. MayAsk e (cycle_arc c.args.cycle)) node c.requires.may in
    (omega (arith, c.decreases), (omega (arith, c.requires.row), (omega (arith, c.requires.row), may)))

pub in_cycle-ply-requires : goal.in_cycle-ply-requires
in_cycle-ply-requires t c =
    let node = c.get.ensures.tree ∙ ap (tree_of (trees_of c.args.table.now)) c.in-Ply.is in
    let is = subst (IsNode c.args.id.index) c.in-Ply.is c.get.ensures.valid in
    let below : rows_needed (c.in-Ply.child ∷ []) ≤ c.args.id.index = rows_below (c.in-Ply.child ∷ []) c.args.id.index is.below in
    (omega (arith, c.decreases), (omega (arith, c.requires.row), subst (λ e. MayAsk e (cycle_arc c.args.cycle)) node c.requires.may))

-- ---- a rate
pub fast-mul-start-requires : goal.fast-mul-start-requires
fast-mul-start-requires t c =
    let child = tree_at c.args.table.now c.args.child in
    let may = may_fast c.args.rate child (cycle_arc c.args.cycle) c.requires.may in
    rw c.start.ensures (arc_fits child (asked c.args.rate c.args.cycle) may).0

pub fast-later-requires : goal.fast-later-requires
fast-later-requires t c = (cycle_small (tree.Fast c.args.rate (tree_at c.args.table.now c.args.child)) c.args.cycle c.requires.may).1

pub fast-mul-stop-requires : goal.fast-mul-stop-requires
fast-mul-stop-requires t c =
    let child = tree_at c.args.table.now c.args.child in
    let may = may_fast c.args.rate child (cycle_arc c.args.cycle) c.requires.may in
    rw (c.start-2.ensures, c.later.ensures) (arc_fits child (asked c.args.rate c.args.cycle) may).1

pub fast-unwrap-arc-requires : goal.fast-unwrap-arc-requires
fast-unwrap-arc-requires t c =
    c.of.ensures.found.1 (rw (c.mul-start.ensures, c.mul-stop.ensures, c.start.ensures, c.start-2.ensures, c.later.ensures)
    (asked_is_arc c.args.rate c.args.cycle c.requires.may.room.valid.0))

pub fast-in_arc-requires : goal.fast-in_arc-requires
fast-in_arc-requires t c =
    let child = tree_at c.args.table.now c.args.child in
    let start : c.unwrap-arc.result.start ≡ whole c.args.cycle *ℚ c.args.rate = search rules in
    let stop : c.unwrap-arc.result.stop ≡ whole (c.args.cycle +ℤ pos 1) *ℚ c.args.rate = search rules in
    let arc = arc_made c.unwrap-arc.result _ _ start stop in
    (omega (arith, c.decreases), (c.requires.row, subst (MayAsk child) (sym arc) (may_fast c.args.rate child (cycle_arc c.args.cycle) c.requires.may)))

pub fast-apply-requires-clause-times : goal.fast-apply-requires-clause-times
fast-apply-requires-clause-times t c =
    let child = tree_at c.args.table.now c.args.child in
    let start : c.unwrap-arc.result.start ≡ whole c.args.cycle *ℚ c.args.rate = search rules in
    let stop : c.unwrap-arc.result.stop ≡ whole (c.args.cycle +ℤ pos 1) *ℚ c.args.rate = search rules in
    let arc = arc_made c.unwrap-arc.result _ _ start stop in
    let made : c.in_ok-events.events ≡ over (cyc child) c.unwrap-arc.result = search rules in
    subst (Each (HasEnds (CanMove (Slower c.args.rate)))) (sym (made ∙ ap (over (cyc child)) arc)) (fast_moves c.args.rate child c.args.cycle c.requires.may)

pub fast-returns : goal.fast-returns
fast-returns t c =
    let child = tree_at c.args.table.now c.args.child in
    let start : c.unwrap-arc.result.start ≡ whole c.args.cycle *ℚ c.args.rate = search rules in
    let stop : c.unwrap-arc.result.stop ≡ whole (c.args.cycle +ℤ pos 1) *ℚ c.args.rate = search rules in
    let arc = arc_made c.unwrap-arc.result _ _ start stop in
    let made : c.in_ok-events.events ≡ over (cyc child) c.unwrap-arc.result = search rules in
    fast_made c.args.rate (cyc child) c.args.cycle c.unwrap-arc.result c.in_ok-events.events c.apply.new.events arc made c.apply.ensures

-- ---- turns
pub cat-in_cycle-requires : goal.cat-in_cycle-requires
cat-in_cycle-requires t c =
    let ids = c.args.children.now in
    let within : c.turn.result < length ids = search rules in
    let row_here = row_of ids c.turn.result c.get-child.result.now within (c.get-child.ensures _) in
    let may = may_turn (trees_of c.args.table.now) ids c.args.cycle c.turn.result c.get-child.result.now c.rounds-round.result within (c.get-child.ensures _)
    (search rules) (search rules) c.requires.may in
    (omega (arith, c.decreases), (omega (arith, c.requires.rows), may))

pub cat-apply-requires-clause-times : goal.cat-apply-requires-clause-times
cat-apply-requires-clause-times t c =
    let ids = c.args.children.now in
    let within : c.turn.result < length ids = search rules in
    let round : c.rounds-round.result ≡ rounds c.args.cycle (length ids) = search rules in
    let near = (cycle_small (tree.Cat (in_order (trees_of c.args.table.now) ids)) c.args.cycle c.requires.may).0 in
    let after = passed_worked_out c.args.cycle (length ids) c.rounds-round.result c.since-by.result near c.requires.some round (search rules) in
    turn_moves (trees_of c.args.table.now) ids c.args.cycle c.turn.result c.get-child.result.now c.rounds-round.result within (c.get-child.ensures _)
    (search rules) round _ c.in_ok-events.events after (search rules) c.requires.may

pub cat-returns : goal.cat-returns
cat-returns t c =
    let ids = c.args.children.now in
    let within : c.turn.result < length ids = search rules in
    let round : c.rounds-round.result ≡ rounds c.args.cycle (length ids) = search rules in
    let near = (cycle_small (tree.Cat (in_order (trees_of c.args.table.now) ids)) c.args.cycle c.requires.may).0 in
    let after = passed_worked_out c.args.cycle (length ids) c.rounds-round.result c.since-by.result near c.requires.some round (search rules) in
    cat_made (trees_of c.args.table.now) ids c.args.cycle c.turn.result c.get-child.result.now c.rounds-round.result within (c.get-child.ensures _)
    (search rules) round _ c.in_ok-events.events c.apply.new.events after (search rules) c.apply.ensures

-- ---- a cycle turned round
pub rev-turn-requires-clause-times : goal.rev-turn-requires-clause-times
rev-turn-requires-clause-times t c =
    let child = tree_at c.args.table.now c.args.child in
    let made : c.in_ok-events.events ≡ cyc child c.args.cycle = search rules in
    subst (Each (HasEnds (CanTurn c.args.cycle))) (sym made) (rev_moves child c.args.cycle c.requires.may)

pub rev-returns : goal.rev-returns
rev-returns t c =
    rev_made (cyc (tree_at c.args.table.now c.args.child)) c.args.cycle c.in_ok-events.events c.turn.new.events (search rules) c.turn.ensures

-- ---- choices
pub pick-chosen-requires : goal.pick-chosen-requires
pick-chosen-requires t c =
    let selector = tree_at c.args.table.now c.args.selector in
    let trees = in_order (trees_of c.args.table.now) c.args.children.now in (
      omega (arith, c.decreases),
      (
        omega (arith, c.requires.rows),
        may_choose selector trees c.args.cycle c.in_ok-selected.selected (search rules) c.requires.may,
      ),
    )

pub pick-returns : goal.pick-returns
pick-returns t c =
    let made = pick_made (cyc (tree_at c.args.table.now c.args.selector)) (patterns (in_order (trees_of c.args.table.now) c.args.children.now)) c.args.cycle
    c.in_ok-selected.selected (search rules) in
    subst (λ all. IfOk c.chosen.result (λ events. events ≡ all)) made c.chosen.ensures

pub chosen-choice-requires : goal.chosen-choice-requires
chosen-choice-requires t c =
    let within : c.loop-i.i < length c.args.selected.now = search rules in
    let may = each_of (λ (e : Event). MayAskEach (in_order (trees_of c.args.table.now) c.args.children.now) e.part) c.args.selected.now c.loop-i.i
    c.get.result.now within (c.get.ensures _) c.requires.may in
    (omega (arith, c.decreases), (c.requires.rows, may))

pub chosen-loop-i-preserved : goal.chosen-loop-i-preserved
chosen-loop-i-preserved t c =
    let within : c.loop-i.i < length c.args.selected.now = search rules in
    flat_more (λ (e : Event). picked (patterns (in_order (trees_of c.args.table.now) c.args.children.now)) e.part e.value) c.args.selected.now c.loop-i.i
    c.get.result.now c.loop-i.events c.in_ok-choice.field-0 c.append.new.self within (c.get.ensures _) (search rules)
    c.in_ok-append.ensures.ok c.loop-i.invariant

pub choice-in_arc-requires : goal.choice-in_arc-requires
choice-in_arc-requires t c =
    let ids = c.args.children.now in
    let within : c.in-Index.index < length ids = search rules in
    let row_here = row_of ids c.in-Index.index c.get-child.result.now within (c.get-child.ensures _) in
    let child = child_of (trees_of c.args.table.now) ids c.in-Index.index c.get-child.result.now within (c.get-child.ensures _) in
    let may = c.requires.may c.in-Index.index (tree_at c.args.table.now c.get-child.result.now) child in (
      omega (arith, c.decreases),
      (
        omega (arith, c.requires.rows),
        subst (λ (e : Event). MayAsk (tree_at c.args.table.now c.get-child.result.now) e.part) (sym c.selected.view_is) may,
      ),
    )

pub choice-returns-in-Index : goal.choice-returns-in-Index
choice-returns-in-Index t c =
    let ids = c.args.children.now in
    let within : c.in-Index.index < length ids = search rules in
    let event : Event = record { whole = c.selected.inside.whole; part = c.selected.inside.part; value = c.selected.inside.value } in
    let made = choice_made (trees_of c.args.table.now) ids c.in-Index.index c.get-child.result.now event within (c.get-child.ensures _) c.in-Index.is in
    subst (λ (e : Event). IfOk c.in_arc.result (λ events. events ≡ picked (patterns (in_order (trees_of c.args.table.now) ids)) e.part e.value))
    c.selected.view_is (subst (λ all. IfOk c.in_arc.result (λ events. events ≡ all)) made c.in_arc.ensures)

pub choice-returns-in_default : goal.choice-returns-in_default
choice-returns-in_default t c =
    let event : Event = record { whole = c.selected.inside.whole; part = c.selected.inside.part; value = c.selected.inside.value } in
    let ps = patterns (in_order (trees_of c.args.table.now) c.args.children.now) in
    let nothing : [] ≡ picked ps event.part event.value = elim c.in_default.branch [
      | choice-in_default-via-in-Index+else-index-len w ↦ no_choice (trees_of c.args.table.now) c.args.children.now w.in-Index.index event
          (omega (arith, w.len.ensures, w.if-index-len.false)) w.in-Index.is
      | choice-in_default-via-in_default w ↦ not_index ps event.part event.value w.in_default.not-Index
    ] in
    c.new.ensures ∙ subst (λ (e : Event). [] ≡ picked ps e.part e.value) c.selected.view_is nothing

-- ---- children together
pub stack-in_cycle-requires : goal.stack-in_cycle-requires
stack-in_cycle-requires t c =
    let trees = trees_of c.args.table.now in
    let ids = c.as_slice-child-items.result.now in
    let same = c.as_slice-child-items.ensures in
    let i = c.loop-child.child-index in
    let rows = ap rows_needed same in
    let none : NodeId = record { index = 0 } in
    let below = row_at ids i none c.loop-child-test.true in
    let may = subst (λ xs. MayAsk (tree.Stack (in_order trees xs)) (cycle_arc c.args.cycle)) (sym same) c.requires.may in
    let child = child_at trees ids i none c.loop-child-test.true in (
      omega (arith, c.decreases, rows, below),
      (
        omega (arith, c.requires.rows, rows, below),
        may_stack (in_order trees ids) i _ (cycle_arc c.args.cycle) child may,
      ),
    )

pub stack-returns : goal.stack-returns
stack-returns t c =
    let trees = trees_of c.args.table.now in
    let ids = c.as_slice-child-items.result.now in
    flat_all (λ id. cyc (row trees id) c.args.cycle) ids c.loop-child.child-index c.loop-child.events c.loop-child-test.false c.loop-child.invariant
    ∙ stack_made trees ids c.args.cycle ∙ ap (λ xs. cyc (tree.Stack (in_order trees xs)) c.args.cycle) c.as_slice-child-items.ensures

-- ---- steps
pub time_cat-loop-step-init : goal.time_cat-loop-step-init
time_cat-loop-step-init t c =
    let trees = trees_of c.args.table.now in
    let steps = c.as_slice-step-items.result.now in
    let total : c.total_weight-total.result ≡ sum_by (λ s. s.weight) steps =
    c.total_weight-total.ensures ∙ ap (sum_by (λ s. s.weight)) (sym c.as_slice-step-items.ensures) in
    let made = time_cat_made trees steps c.args.cycle c.total_weight-total.result total in
    (rw c.new-events.ensures made, omega (arith, total))

pub time_cat-in_cycle-requires : goal.time_cat-in_cycle-requires
time_cat-in_cycle-requires t c =
    let trees = trees_of c.args.table.now in
    let steps = c.as_slice-step-items.result.now in
    let same = c.as_slice-step-items.ensures in
    let i = c.loop-step.step-index in
    let rows = ap (λ xs. rows_needed (map (λ s. s.child) xs)) same in
    let none : StepValue = record { weight = 0; child = record { index = 0 } } in
    let below = step_row_at steps i none c.loop-step-test.true in
    let may = subst (λ xs. MayAsk (tree.TimeCat (steps_of trees xs)) (cycle_arc c.args.cycle)) (sym same) c.requires.may in (
      omega (arith, c.decreases, rows, below),
      (
        omega (arith, c.requires.rows, rows, below),
        may_be_step trees steps i none c.loop-step-test.true c.args.cycle may,
      ),
    )

pub time_cat-apply-requires-clause-forward : goal.time_cat-apply-requires-clause-forward
time_cat-apply-requires-clause-forward t c =
    let trees = trees_of c.args.table.now in
    let steps = c.as_slice-step-items.result.now in
    let same = c.as_slice-step-items.ensures in
    let total = c.total_weight-total.ensures ∙ ap (sum_by (λ s. s.weight)) (sym same) in
    let may = subst (λ xs. MayAsk (tree.TimeCat (steps_of trees xs)) (cycle_arc c.args.cycle)) (sym same) c.requires.may in
    step_forward trees steps c.loop-step.step-index _ c.loop-step-test.true c.args.cycle c.total_weight-total.result total may

pub time_cat-apply-requires-clause-times : goal.time_cat-apply-requires-clause-times
time_cat-apply-requires-clause-times t c =
    let trees = trees_of c.args.table.now in
    let steps = c.as_slice-step-items.result.now in
    let same = c.as_slice-step-items.ensures in
    let total = c.total_weight-total.ensures ∙ ap (sum_by (λ s. s.weight)) (sym same) in
    let may = subst (λ xs. MayAsk (tree.TimeCat (steps_of trees xs)) (cycle_arc c.args.cycle)) (sym same) c.requires.may in
    steps_move trees steps c.loop-step.step-index _ c.loop-step-test.true c.args.cycle c.loop-step.before c.total_weight-total.result
    c.in_ok-child.child c.loop-step.invariant.1 total (search rules) may

pub time_cat-loop-step-preserved : goal.time_cat-loop-step-preserved
time_cat-loop-step-preserved t c =
    let trees = trees_of c.args.table.now in
    let steps = c.as_slice-step-items.result.now in
    let i = c.loop-step.step-index in
    let total = c.total_weight-total.result in (
      steps_more trees steps i _ c.loop-step-test.true total c.loop-step.before c.args.cycle c.in_ok-child.child c.apply.new.events c.loop-step.events
          c.append.new.self _ (search rules) c.apply.ensures c.in_ok-append.ensures.ok c.loop-step.invariant.0,
      weights_more trees steps i _ c.loop-step-test.true total c.loop-step.before c.loop-step.invariant.1,
    )

-- ---- in some cycles of a round
pub when-returns-then-meets : goal.when-returns-then-meets
when-returns-then-meets t c =
    let made = when_made c.args.modulus (meets c.args.test) (cyc (tree_at c.args.table.now c.args.yes)) (cyc (tree_at c.args.table.now c.args.no)) c.args.cycle
    true (sym c.if-meets.true ∙ c.meets.ensures) in
    subst (λ all. IfOk c.in_cycle.result (λ events. events ≡ all)) made c.in_cycle.ensures

pub when-returns-else-meets : goal.when-returns-else-meets
when-returns-else-meets t c =
    let made = when_made c.args.modulus (meets c.args.test) (cyc (tree_at c.args.table.now c.args.yes)) (cyc (tree_at c.args.table.now c.args.no)) c.args.cycle
    false (sym c.if-meets.false ∙ c.meets.ensures) in
    subst (λ all. IfOk c.in_cycle-else-meets.result (λ events. events ≡ all)) made c.in_cycle-else-meets.ensures

-- ---- a later time
pub shift-sub-start-requires : goal.shift-sub-start-requires
shift-sub-start-requires t c =
    let child = tree_at c.args.table.now c.args.child in
    let may = may_shift c.args.by child (cycle_arc c.args.cycle) c.requires.may in
    rw c.start.ensures (arc_fits child (earlier c.args.by c.args.cycle) may).0

pub shift-later-requires : goal.shift-later-requires
shift-later-requires t c = (cycle_small (tree.Shift c.args.by (tree_at c.args.table.now c.args.child)) c.args.cycle c.requires.may).1

pub shift-sub-stop-requires : goal.shift-sub-stop-requires
shift-sub-stop-requires t c =
    let child = tree_at c.args.table.now c.args.child in
    let may = may_shift c.args.by child (cycle_arc c.args.cycle) c.requires.may in
    rw (c.start-2.ensures, c.later.ensures) (arc_fits child (earlier c.args.by c.args.cycle) may).1

pub shift-unwrap-arc-requires : goal.shift-unwrap-arc-requires
shift-unwrap-arc-requires t c =
    c.of.ensures.found.1 (rw (c.sub-start.ensures, c.sub-stop.ensures, c.start.ensures, c.start-2.ensures, c.later.ensures)
    (earlier_is_arc c.args.by c.args.cycle))

pub shift-in_arc-requires : goal.shift-in_arc-requires
shift-in_arc-requires t c =
    let child = tree_at c.args.table.now c.args.child in
    let start : c.unwrap-arc.result.start ≡ whole c.args.cycle -ℚ c.args.by = search rules in
    let stop : c.unwrap-arc.result.stop ≡ whole (c.args.cycle +ℤ pos 1) -ℚ c.args.by = search rules in
    let arc = arc_made c.unwrap-arc.result _ _ start stop in
    (omega (arith, c.decreases), (c.requires.row, subst (MayAsk child) (sym arc) (may_shift c.args.by child (cycle_arc c.args.cycle) c.requires.may)))

pub shift-apply-requires-clause-times : goal.shift-apply-requires-clause-times
shift-apply-requires-clause-times t c =
    let child = tree_at c.args.table.now c.args.child in
    let start : c.unwrap-arc.result.start ≡ whole c.args.cycle -ℚ c.args.by = search rules in
    let stop : c.unwrap-arc.result.stop ≡ whole (c.args.cycle +ℤ pos 1) -ℚ c.args.by = search rules in
    let arc = arc_made c.unwrap-arc.result _ _ start stop in
    let made : c.in_ok-events.events ≡ over (cyc child) c.unwrap-arc.result = search rules in
    subst (Each (HasEnds (CanMove (Shifted c.args.by)))) (sym (made ∙ ap (over (cyc child)) arc)) (shift_moves c.args.by child c.args.cycle c.requires.may)

pub shift-returns : goal.shift-returns
shift-returns t c =
    let child = tree_at c.args.table.now c.args.child in
    let start : c.unwrap-arc.result.start ≡ whole c.args.cycle -ℚ c.args.by = search rules in
    let stop : c.unwrap-arc.result.stop ≡ whole (c.args.cycle +ℤ pos 1) -ℚ c.args.by = search rules in
    let arc = arc_made c.unwrap-arc.result _ _ start stop in
    let made : c.in_ok-events.events ≡ over (cyc child) c.unwrap-arc.result = search rules in
    shift_made c.args.by (cyc child) c.args.cycle c.unwrap-arc.result c.in_ok-events.events c.apply.new.events arc made c.apply.ensures

-- ---- pieces, and what starts in a part of its cycle
pub ply-add_plied-requires-clause-can : goal.ply-add_plied-requires-clause-can
ply-add_plied-requires-clause-can t c =
    let child = tree_at c.args.table.now c.args.child in
    let made : c.in_ok-events.events ≡ cyc child c.args.cycle = search rules in
    subst (Each (CanPlyWhole c.args.times)) (sym made) (ply_cuts c.args.times child c.args.cycle c.requires.may)

pub ply-returns : goal.ply-returns
ply-returns t c =
    let made = ply_made c.args.times (cyc (tree_at c.args.table.now c.args.child)) c.args.cycle c.in_ok-events.events (search rules) in
    c.in_ok-add_plied.ensures ∙ ap (λ es. es ++ flat_map (fragments c.args.times) c.in_ok-events.events) c.new-fragments.ensures ∙ made

pub gate-returns : goal.gate-returns
gate-returns t c =
    let made = gate_made c.args.from c.args.to c.args.inside (cyc (tree_at c.args.table.now c.args.child)) c.args.cycle c.in_ok-events.events (search rules) in
    c.filter.ensures ∙ made

-- ---- joins
pub join-in_cycle-requires : goal.join-in_cycle-requires
join-in_cycle-requires t c =
    let d = tree_at c.args.table.now c.args.left in
    let e = tree_at c.args.table.now c.args.right in
    (omega (arith, c.decreases), (c.requires.left, may_left_cycle c.args.side c.args.op d e c.args.cycle c.requires.may))

pub join-in_cycle-requires-2 : goal.join-in_cycle-requires-2
join-in_cycle-requires-2 t c =
    let d = tree_at c.args.table.now c.args.left in
    let e = tree_at c.args.table.now c.args.right in
    (omega (arith, c.decreases), (c.requires.right, may_right_cycle c.args.side c.args.op d e c.args.cycle c.requires.may))

pub join-returns : goal.join-returns
join-returns t c =
    let d = tree_at c.args.table.now c.args.left in
    let e = tree_at c.args.table.now c.args.right in
    let made = join_made c.args.side c.args.op d e c.args.cycle c.in_ok-lefts.lefts c.in_ok-rights.rights (search rules) (search rules) c.requires.may in
    c.in_ok-add_joined.ensures
    ∙ ap (λ es. es ++ joined_pairs c.args.side (value_of c.args.op) c.in_ok-lefts.lefts c.in_ok-rights.rights) c.new-events.ensures ∙ made
