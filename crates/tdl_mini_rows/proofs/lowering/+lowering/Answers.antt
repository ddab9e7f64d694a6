use Rattle.std.proofs.Common.{◌≤◌, ◌≡◌, ◌+◌, List, [], length, take, take_all, sym, ap, ◌∙◌, subst, refl, arith, MatchResult, Ok, Err, ◌-◌, drop, get_or, map}
use Rattle.std.proofs.lemmas.List.{length-take}
use Rattle.tdl_mini_tree.specs.declared.tree.Element.{Element}
use Rattle.tdl_mini_tree.specs.declared.tree.Group.{Group}
use Rattle.tdl_mini_tree.specs.declared.tree.Sequence.{Sequence}
use Rattle.tdl_mini_tree.specs.declared.tree.Layers.{Layers}
use Rattle.tdl_mini_tree.specs.View.{trees_of, layers_of, group_of, sequence_of, operand_with, braces_of, changed, term_of, named}
use Rattle.tdl_rows.specs.Built.{kept, Built}
use Rattle.tdl_mini_rows.specs.Leaves.{index_leaf}
use Rattle.tdl_mini_rows.specs.Lowered.{layers_built, group_built, sequence_built, groups_built, step_built, Finish, stacked, selected, indices_of}
use Rattle.tdl_mini_rows.specs.Lowered.{at_pace, in_turn}
use Rattle.tdl_mini_rows.specs.inside.Stays.{steps_after}
use Rattle.tdl_mini_rows.specs.inside.Views.{play_of, finish_with, steps_at, LowersSteps}
use Rattle.tdl_mini_rows.specs.inside.Bounds.{kind_of, is_rate}
use Rattle.tdl_rows.specs.Stays.{row_after}
use Rattle.tdl_rows.proofs.Gained.{exit_refused, exit_want, Refused-first, Gains-append, Refused-append}
use Rattle.tdl_mini_tree.proofs.Named.{named-at, named-past}
use Rattle.tdl_mini_tree.proofs.SpanPlaces.{changes_values}
use Rattle.tdl_mini_rows.proofs.Runs.{played_is, range_is, hold_is, repeat_is, and_copies, same_steps, no_steps, LowersSteps-same, RefusedSteps-same}
use Rattle.tdl_mini_rows.proofs.Runs.{group_run}
use Rattle.tdl_mini_rows.proofs.Runs.{element_step, steps_more, steps_refused, layers_run, sequence_step, joined_more, joined_refused, inner_same, groups_run}
use Rattle.tdl_mini_rows.proofs.Runs.{group_step, several, single, changes_run}
use Rattle.std.specs.List.{fold}
use Rattle.tdl_expr.specs.Tree.{Silence}
use Rattle.tdl_expr.specs.declared.nodes.Node.TheVariants as node
use Rattle.tdl_mini_tree.specs.declared.tree.StepChange.{StepChange}
use Rattle.tdl_mini_tree.specs.Tree.{begins}
use Rattle.tdl_mini_tree.specs.Sizes.{unit}
use Rattle.tdl_rows.specs.Joined.{Weighted, timecat_of}
use Rattle.tdl_rows.specs.Lowers.{Refused}
use Rattle.tdl_mini_rows.specs.inside.Changes.{change_built}
use Rattle.tdl_rows.proofs.Pushes.{pushed_row}
use Rattle.tdl_rows.proofs.Gained.{LowersTo-same, Refused-same, Lowers-same}
use Rattle.tdl_mini_rows.proofs.Parts.{tree_more, tree_refused, first_refused, begins_is, value_is, rest_is, bracketed_is, stacked_row, selected_done}
use Rattle.tdl_mini_rows.proofs.Parts.{selected_refused, argument_plain, argument_chosen, LowersToArg-same, RefusedArg-same}
use Rattle.tdl_expr.specs.Rows.{tree_at}
use Rattle.tdl_rows.specs.Stays.{argument_row}
use Rattle.tdl_mini_rows.proofs.ChangeRows.{fast_refused, slow_refused, fast_row, slow_row, hits_refused, steps_refused_after, from_refused, euclid_row}
use Rattle.tdl_mini_rows.proofs.ChangeRows.{from_none, from_some}
use Rattle.tdl_fraction.specs.Rational.{Rational}
use Rattle.tdl_mini_tree.specs.declared.tree.NestId.{NestId}
use Rattle.tdl_mini_rows.specs.inside.Waits.{LowersWaits, waits_built}
use Rattle.tdl_mini_rows.proofs.Ends.{nil_of, first_of, last_of, same_default, operand_none, factor_plain, factor_row}
use Rattle.tdl_mini_rows.proofs.OperandRows.{all_back, operand_nested, operand_paced, operand_chosen, scaled_waits, nested_waits}
use Rattle.tdl_mini_rows.proofs.WaitRows.{factor_refused, back_row, waits_refused, waits_more}
use Rattle.tdl_mini_tree.proofs.ValidParts.{group_at, element_at, term_valid, first_valid}
use Rattle.tdl_mini_rows.proofs.ValidSteps.{factors_valid, nested_valid, ends_valid}
use Rattle.tdl_mini_rows.proofs.Accepted.{rates_in, bounded_in}
use Rattle.tdl_mini_rows.proofs.BuiltArguments.{selected_rates, factor_rates, waits_bounded}
use Rattle.tdl_mini_rows.proofs.BuiltCounts.{fills-in_turn, fills-at_pace}
use Rattle.tdl_mini_rows.proofs.LoweredBounds.{nest_sequence, sequence_lowered, group_lowered, group_so_far, layers_lowered, sequences-few, values_lowered}
use Rattle.tdl_mini_rows.proofs.LoweredBounds.{fills-way, lowered_all, change_at, slow_rates, euclid_from, euclid_taken, factor_after}
use Rattle.std.proofs.lemmas.List.Sums.{AllPass-from_list_all}
use Rattle.tdl_mini_tree.specs.declared.leaves.Kind.TheVariants.{Ratio}
use Rattle.tdl_mini_tree.specs.Valid.{is_valid}
use Rattle.tdl_mini_rows.specs.inside.Turns.{ComeInTurn}
use Rattle.tdl_mini_rows.proofs.Turns.{distinct-turn, sequence-turn, group-turn, element-turn, operand-turn}
use Rattle.tdl_mini_rows.proofs.lowering.+lowering.Goals as goal

pub add_element-returns-in_err-id-in-Played : goal.add_element-returns-in_err-id-in-Played
add_element-returns-in_err-id-in-Played t c =
    exit_refused _ _ c.from_residual.result c.from_residual.ensures.1
    (RefusedSteps-same _ _ _ _ _
    (played_is (trees_of c.args.nests.now) (play_of c.args.play.now) c.args.element.now c.in-Played.step c.in-Played.weight c.in-Played.count
    (steps_at c.args.table.now c.args.steps.now.items) c.in-Played.is) (Refused-first [] c.in_err-id-in-Played.ensures))

pub add_element-returns-in_err-add_range-in-Range : goal.add_element-returns-in_err-add_range-in-Range
add_element-returns-in_err-add_range-in-Range t c =
    exit_refused _ _ c.from_residual-in_err-add_range-in-Range.result c.from_residual-in_err-add_range-in-Range.ensures.1
    (RefusedSteps-same _ _ _ _ _
    (range_is (trees_of c.args.nests.now) (play_of c.args.play.now) c.args.element.now c.in-Range.first c.in-Range.last
    (steps_at c.args.table.now c.args.steps.now.items) c.in-Range.is) c.in_err-add_range-in-Range.ensures)

pub add_element-returns-in_ok-add_times-in-Played : goal.add_element-returns-in_ok-add_times-in-Played
add_element-returns-in_ok-add_times-in-Played t c =
    LowersSteps-same _ _ _ _ _
    (played_is (trees_of c.args.nests.now) (play_of c.args.play.now) c.args.element.now c.in-Played.step c.in-Played.weight c.in-Played.count
    (steps_at c.args.table.now c.args.steps.now.items) c.in-Played.is)
    (and_copies c.args.steps.now.items _ _ _ _ _ _ c.requires.rows c.in_ok-id-in-Played.ensures c.weight_of-parts.ensures.value c.times_of.ensures
    c.in_ok-add_times-in-Played.ensures)

pub add_element-returns-in_ok-add_range-in-Range : goal.add_element-returns-in_ok-add_range-in-Range
add_element-returns-in_ok-add_range-in-Range t c = LowersSteps-same _ _ _ _ _
    (range_is (trees_of c.args.nests.now) (play_of c.args.play.now) c.args.element.now c.in-Range.first c.in-Range.last
    (steps_at c.args.table.now c.args.steps.now.items) c.in-Range.is) c.in_ok-add_range-in-Range.ensures

pub add_element-returns-in_ok-lengthen_last-in-Hold : goal.add_element-returns-in_ok-lengthen_last-in-Hold
add_element-returns-in_ok-lengthen_last-in-Hold t c = LowersSteps-same _ _ _ _ _
    (hold_is (trees_of c.args.nests.now) (play_of c.args.play.now) c.args.element.now (steps_at c.args.table.now c.args.steps.now.items) c.in-Hold.is)
    (same_steps _ _ _ (c.in_ok-lengthen_last-in-Hold.ensures c.args.table.now c.requires.rows))

pub add_element-returns-in_ok-repeat_last-in-Repeat : goal.add_element-returns-in_ok-repeat_last-in-Repeat
add_element-returns-in_ok-repeat_last-in-Repeat t c = LowersSteps-same _ _ _ _ _
    (repeat_is (trees_of c.args.nests.now) (play_of c.args.play.now) c.args.element.now (steps_at c.args.table.now c.args.steps.now.items) c.in-Repeat.is)
    (same_steps _ _ _ (c.in_ok-repeat_last-in-Repeat.ensures c.args.table.now c.requires.rows))

pub group_of-loop-element-init : goal.group_of-loop-element-init
group_of-loop-element-init t c = LowersSteps-same _ _ _ _ _ (sym (group_run (trees_of c.args.nests.now) (play_of c.args.play.now) []))
    (no_steps _ _ c.new-steps.ensures.items)

pub group_of-returns-in_err-add_element : goal.group_of-returns-in_err-add_element
group_of-returns-in_err-add_element t c =
    exit_refused _ _ c.from_residual.result c.from_residual.ensures.1
    (RefusedSteps-same _ _ _ _ _ (sym (group_run (trees_of c.args.nests.now) (play_of c.args.play.now) c.deref-element-items.result.now)
    ∙ ap (λ (es : List Element). group_built (play_of c.args.play.now) (group_of (trees_of c.args.nests.now) es)) c.deref-element-items.ensures.value)
    (steps_refused (element_step (trees_of c.args.nests.now) (play_of c.args.play.now))
    (kept []) c.deref-element-items.result.now c.loop-element.element-index c.element-item.result c.loop-element-test.true c.element-item.is
    (LowersSteps-same _ _ _ _ _
    (group_run (trees_of c.args.nests.now) (play_of c.args.play.now) (take c.loop-element.element-index c.deref-element-items.result.now))
    c.loop-element.invariant) _ _ c.in_err-add_element.ensures))

pub group_of-loop-element-preserved : goal.group_of-loop-element-preserved
group_of-loop-element-preserved t c = LowersSteps-same _ _ _ _ _
    (sym (group_run (trees_of c.args.nests.now) (play_of c.args.play.now) (take (c.loop-element.element-index + 1) c.deref-element-items.result.now)))
    (steps_more (element_step (trees_of c.args.nests.now) (play_of c.args.play.now))
    (kept []) c.deref-element-items.result.now c.loop-element.element-index c.element-item.result c.loop-element-test.true c.element-item.is
    (LowersSteps-same _ _ _ _ _
    (group_run (trees_of c.args.nests.now) (play_of c.args.play.now) (take c.loop-element.element-index c.deref-element-items.result.now))
    c.loop-element.invariant) _ _ c.in_ok-add_element.ensures)

pub layers_of-loop-sequence-init : goal.layers_of-loop-sequence-init
layers_of-loop-sequence-init t c = LowersSteps-same _ _ _ _ _
    (sym (layers_run (trees_of (take c.args.id.index c.args.nests.now)) (play_of c.args.play.now) (finish_with c.args.finish.now) []))
    (no_steps _ _ c.new-joined.ensures.items)

pub layers_of-returns-in_err-steps : goal.layers_of-returns-in_err-steps
layers_of-returns-in_err-steps t c =
    exit_refused _ _ c.from_residual.result c.from_residual.ensures.1
    (RefusedSteps-same _ _ _ _ _
    (sym (layers_run (trees_of (take c.args.id.index c.args.nests.now)) (play_of c.args.play.now)
    (finish_with c.args.finish.now) c.as_slice-sequence-items.result.now)
    ∙ (ap (λ (ss : List Sequence). layers_built (play_of c.args.play.now) (finish_with c.args.finish.now)
    (layers_of (trees_of (take c.args.id.index c.args.nests.now)) ss))
    (c.as_slice-sequence-items.ensures ∙ ap (λ (ls : Layers). ls.sequences.items) (sym c.index-nests-at.is))
    ∙ ap (layers_built (play_of c.args.play.now) (finish_with c.args.finish.now))
    (sym (named-at c.args.nests.now c.args.id c.index-nests-at.result (omega arith) c.index-nests-at.is))))
    (steps_refused (sequence_step (trees_of (take c.args.id.index c.args.nests.now)) (play_of c.args.play.now) (finish_with c.args.finish.now))
    (kept []) c.as_slice-sequence-items.result.now c.loop-sequence.sequence-index c.sequence-item.result c.loop-sequence-test.true c.sequence-item.is
    (LowersSteps-same _ _ _ _ _
    (layers_run (trees_of (take c.args.id.index c.args.nests.now)) (play_of c.args.play.now) (finish_with c.args.finish.now)
    (take c.loop-sequence.sequence-index c.as_slice-sequence-items.result.now)) c.loop-sequence.invariant) _ _ (Refused-first _ c.in_err-steps.ensures)))

pub layers_of-returns-in_err-id : goal.layers_of-returns-in_err-id
layers_of-returns-in_err-id t c =
    exit_refused _ _ c.from_residual-in_err-id.result c.from_residual-in_err-id.ensures.1
    (RefusedSteps-same _ _ _ _ _
    (sym (layers_run (trees_of (take c.args.id.index c.args.nests.now)) (play_of c.args.play.now)
    (finish_with c.args.finish.now) c.as_slice-sequence-items.result.now)
    ∙ (ap (λ (ss : List Sequence). layers_built (play_of c.args.play.now) (finish_with c.args.finish.now)
    (layers_of (trees_of (take c.args.id.index c.args.nests.now)) ss))
    (c.as_slice-sequence-items.ensures ∙ ap (λ (ls : Layers). ls.sequences.items) (sym c.index-nests-at.is))
    ∙ ap (layers_built (play_of c.args.play.now) (finish_with c.args.finish.now))
    (sym (named-at c.args.nests.now c.args.id c.index-nests-at.result (omega arith) c.index-nests-at.is))))
    (steps_refused (sequence_step (trees_of (take c.args.id.index c.args.nests.now)) (play_of c.args.play.now) (finish_with c.args.finish.now))
    (kept []) c.as_slice-sequence-items.result.now c.loop-sequence.sequence-index c.sequence-item.result c.loop-sequence-test.true c.sequence-item.is
    (LowersSteps-same _ _ _ _ _
    (layers_run (trees_of (take c.args.id.index c.args.nests.now)) (play_of c.args.play.now) (finish_with c.args.finish.now)
    (take c.loop-sequence.sequence-index c.as_slice-sequence-items.result.now)) c.loop-sequence.invariant) _ _
    (joined_refused _ (finish_with c.args.finish.now) _ _ c.deref.result.now c.loop-sequence.joined.items
    (inner_same _ _ _ _ _ c.deref.ensures c.in_ok-steps.ensures)
    (c.parts_of-parts.ensures.value (trees_of (take c.args.id.index c.args.nests.now))) _ _ c.in_err-id.ensures)))

pub layers_of-returns-in_err-push : goal.layers_of-returns-in_err-push
layers_of-returns-in_err-push t c = exit_want _ _ c.from_residual-in_err-push.result c.from_residual-in_err-push.ensures.1
    (Gains-append c.loop-sequence.invariant.gains (Gains-append c.in_ok-steps.ensures.gains c.in_ok-id.ensures.gains))

pub layers_of-loop-sequence-preserved : goal.layers_of-loop-sequence-preserved
layers_of-loop-sequence-preserved t c = LowersSteps-same _ _ _ _ _
    (sym (layers_run (trees_of (take c.args.id.index c.args.nests.now)) (play_of c.args.play.now) (finish_with c.args.finish.now)
    (take (c.loop-sequence.sequence-index + 1) c.as_slice-sequence-items.result.now)))
    (steps_more (sequence_step (trees_of (take c.args.id.index c.args.nests.now)) (play_of c.args.play.now) (finish_with c.args.finish.now))
    (kept []) c.as_slice-sequence-items.result.now c.loop-sequence.sequence-index c.sequence-item.result c.loop-sequence-test.true c.sequence-item.is
    (LowersSteps-same _ _ _ _ _
    (layers_run (trees_of (take c.args.id.index c.args.nests.now)) (play_of c.args.play.now) (finish_with c.args.finish.now)
    (take c.loop-sequence.sequence-index c.as_slice-sequence-items.result.now)) c.loop-sequence.invariant) _ _
    (joined_more _ (finish_with c.args.finish.now) _ _ c.deref.result.now c.loop-sequence.joined.items
    (inner_same _ _ _ _ _ c.deref.ensures c.in_ok-steps.ensures)
    (c.parts_of-parts.ensures.value (trees_of (take c.args.id.index c.args.nests.now))) _ c.loop-sequence.invariant.rows c.in_ok-id.ensures
    c.in_ok-push.ensures.ok))

pub layers_of-returns : goal.layers_of-returns
layers_of-returns t c =
    let all = take_all c.loop-sequence.sequence-index c.as_slice-sequence-items.result.now c.loop-sequence-test.false in
    LowersSteps-same _ _ _ _ _
    (ap (λ (ss : List Sequence). layers_built (play_of c.args.play.now) (finish_with c.args.finish.now)
    (layers_of (trees_of (take c.args.id.index c.args.nests.now)) ss))
    (all ∙ (c.as_slice-sequence-items.ensures ∙ ap (λ (ls : Layers). ls.sequences.items) (sym c.index-nests-at.is)))
    ∙ ap (layers_built (play_of c.args.play.now) (finish_with c.args.finish.now))
    (sym (named-at c.args.nests.now c.args.id c.index-nests-at.result (omega arith) c.index-nests-at.is))) c.loop-sequence.invariant

pub sequence_of-loop-group-init : goal.sequence_of-loop-group-init
sequence_of-loop-group-init t c = LowersSteps-same _ _ _ _ _ (sym (groups_run (trees_of c.args.nests.now) (play_of c.args.play.now) []))
    (no_steps _ _ c.new-steps.ensures.items)

pub sequence_of-returns-in_err-inner-in_default : goal.sequence_of-returns-in_err-inner-in_default
sequence_of-returns-in_err-inner-in_default t c =
    exit_refused _ _ c.from_residual.result c.from_residual.ensures.1
    (RefusedSteps-same _ _ _ _ _ (sym (groups_run (trees_of c.args.nests.now) (play_of c.args.play.now) c.as_slice.result.now)
    ∙ (several (trees_of c.args.nests.now) (play_of c.args.play.now) c.as_slice.result.now (λ e. omega arith)
    ∙ ap (λ (gs : List Group). sequence_built (play_of c.args.play.now) (sequence_of (trees_of c.args.nests.now) gs)) c.as_slice.ensures))
    (steps_refused (group_step (trees_of c.args.nests.now) (play_of c.args.play.now))
    (kept []) c.as_slice.result.now c.loop-group.group-index c.group-item-in-loop-group.result c.loop-group-test.true c.group-item-in-loop-group.is
    (LowersSteps-same _ _ _ _ _ (groups_run (trees_of c.args.nests.now) (play_of c.args.play.now) (take c.loop-group.group-index c.as_slice.result.now))
    c.loop-group.invariant) _ _ (Refused-first _ c.in_err-inner-in_default.ensures)))

pub sequence_of-returns-in_err-id-in_default : goal.sequence_of-returns-in_err-id-in_default
sequence_of-returns-in_err-id-in_default t c =
    exit_refused _ _ c.from_residual-in_err-id-in_default.result c.from_residual-in_err-id-in_default.ensures.1
    (RefusedSteps-same _ _ _ _ _ (sym (groups_run (trees_of c.args.nests.now) (play_of c.args.play.now) c.as_slice.result.now)
    ∙ (several (trees_of c.args.nests.now) (play_of c.args.play.now) c.as_slice.result.now (λ e. omega arith)
    ∙ ap (λ (gs : List Group). sequence_built (play_of c.args.play.now) (sequence_of (trees_of c.args.nests.now) gs)) c.as_slice.ensures))
    (steps_refused (group_step (trees_of c.args.nests.now) (play_of c.args.play.now))
    (kept []) c.as_slice.result.now c.loop-group.group-index c.group-item-in-loop-group.result c.loop-group-test.true c.group-item-in-loop-group.is
    (LowersSteps-same _ _ _ _ _ (groups_run (trees_of c.args.nests.now) (play_of c.args.play.now) (take c.loop-group.group-index c.as_slice.result.now))
    c.loop-group.invariant) _ _
    (joined_refused _ (λ n steps. timecat_of steps) unit unit c.deref.result.now c.loop-group.steps.items
    (inner_same _ _ _ _ _ c.deref.ensures c.in_ok-inner-in_default.ensures) refl _ _ c.in_err-id-in_default.ensures)))

pub sequence_of-returns-in_err-push-in_default : goal.sequence_of-returns-in_err-push-in_default
sequence_of-returns-in_err-push-in_default t c =
    exit_want _ _ c.from_residual-in_err-push-in_default.result c.from_residual-in_err-push-in_default.ensures.1
    (Gains-append c.loop-group.invariant.gains (Gains-append c.in_ok-inner-in_default.ensures.gains c.in_ok-id-in_default.ensures.gains))

pub sequence_of-loop-group-preserved : goal.sequence_of-loop-group-preserved
sequence_of-loop-group-preserved t c = LowersSteps-same _ _ _ _ _
    (sym (groups_run (trees_of c.args.nests.now) (play_of c.args.play.now) (take (c.loop-group.group-index + 1) c.as_slice.result.now)))
    (steps_more (group_step (trees_of c.args.nests.now) (play_of c.args.play.now))
    (kept []) c.as_slice.result.now c.loop-group.group-index c.group-item-in-loop-group.result c.loop-group-test.true c.group-item-in-loop-group.is
    (LowersSteps-same _ _ _ _ _ (groups_run (trees_of c.args.nests.now) (play_of c.args.play.now) (take c.loop-group.group-index c.as_slice.result.now))
    c.loop-group.invariant) _ _
    (joined_more _ (λ n steps. timecat_of steps) unit unit c.deref.result.now c.loop-group.steps.items
    (inner_same _ _ _ _ _ c.deref.ensures c.in_ok-inner-in_default.ensures) refl _ c.loop-group.invariant.rows c.in_ok-id-in_default.ensures
    c.in_ok-push-in_default.ensures.ok))

pub sequence_of-returns-after-loop-group : goal.sequence_of-returns-after-loop-group
sequence_of-returns-after-loop-group t c =
    let all = take_all c.loop-group.group-index c.as_slice.result.now c.loop-group-test.false in
    LowersSteps-same _ _ _ _ _ (ap (λ (gs : List Group). groups_built (play_of c.args.play.now) (sequence_of (trees_of c.args.nests.now) gs)) all
    ∙ (several (trees_of c.args.nests.now) (play_of c.args.play.now) c.as_slice.result.now (λ e. omega arith)
    ∙ ap (λ (gs : List Group). sequence_built (play_of c.args.play.now) (sequence_of (trees_of c.args.nests.now) gs)) c.as_slice.ensures))
    c.loop-group.invariant

pub sequence_of-returns-in-len1 : goal.sequence_of-returns-in-len1
sequence_of-returns-in-len1 t c =
    let one : length c.as_slice.result.now ≡ 1 = omega (arith, c.in-len1.len_at_least, c.in-len1.len_below) in
    let Q : Built (List Weighted) → Type 0 = λ b. MatchResult c.group_of.result (λ s. LowersSteps c.args.table.now c.group_of.new.table b s.items)
    (Refused c.args.table.now c.group_of.new.table b.rows) in
    subst Q (single (trees_of c.args.nests.now) (play_of c.args.play.now) c.as_slice.result.now c.group-item.result _ one c.group-item.is
    ∙ ap (λ (gs : List Group). sequence_built (play_of c.args.play.now) (sequence_of (trees_of c.args.nests.now) gs)) c.as_slice.ensures)
    c.group_of.ensures

pub sequence_of-returns-in-empty : goal.sequence_of-returns-in-empty
sequence_of-returns-in-empty t c = LowersSteps-same _ _ _ _ _
    (sym (groups_run (trees_of c.args.nests.now) (play_of c.args.play.now) [])
    ∙ (several (trees_of c.args.nests.now) (play_of c.args.play.now) [] (λ e. omega arith)
    ∙ ap (λ (gs : List Group). sequence_built (play_of c.args.play.now) (sequence_of (trees_of c.args.nests.now) gs))
    (sym (nil_of c.as_slice.result.now (omega arith)) ∙ c.as_slice.ensures))) (no_steps _ _ c.new.ensures.items)

pub step_of-loop-change-init : goal.step_of-loop-change-init
step_of-loop-change-init t c =
    Lowers-same _ _ _ _ _ (begins_is (trees_of c.args.nests.now) (play_of c.args.play.now) (term_of (trees_of c.args.nests.now) c.args.step.now.term))
    c.in_ok-id.ensures

pub step_of-returns-in_err-id : goal.step_of-returns-in_err-id
step_of-returns-in_err-id t c =
    exit_refused _ _ c.from_residual.result c.from_residual.ensures.1
    (Refused-same _ _ _ _ _
    (sym (changes_run (trees_of c.args.nests.now) (play_of c.args.play.now)
    (begins (term_of (trees_of c.args.nests.now) c.args.step.now.term)) c.args.step.now.changes.items))
    (first_refused (change_built (trees_of c.args.nests.now))
    (step_built (play_of c.args.play.now) (begins (term_of (trees_of c.args.nests.now) c.args.step.now.term))) c.args.step.now.changes.items _ _ _
    (Refused-same _ _ _ _ _ (begins_is (trees_of c.args.nests.now) (play_of c.args.play.now) (term_of (trees_of c.args.nests.now) c.args.step.now.term))
    c.in_err-id.ensures)))

pub step_of-returns-in_err-id-2 : goal.step_of-returns-in_err-id-2
step_of-returns-in_err-id-2 t c =
    exit_refused _ _ c.from_residual-in_err-id-2.result c.from_residual-in_err-id-2.ensures.1
    (Refused-same _ _ _ _ _
    (sym (changes_run (trees_of c.args.nests.now) (play_of c.args.play.now)
    (begins (term_of (trees_of c.args.nests.now) c.args.step.now.term)) c.deref-change-items.result.now)
    ∙ ap (λ (ks : List StepChange). step_built (play_of c.args.play.now)
    (fold (changed (trees_of c.args.nests.now)) (begins (term_of (trees_of c.args.nests.now) c.args.step.now.term)) ks))
    c.deref-change-items.ensures.value)
    (tree_refused (change_built (trees_of c.args.nests.now))
    (step_built (play_of c.args.play.now) (begins (term_of (trees_of c.args.nests.now) c.args.step.now.term))) c.deref-change-items.result.now
    c.loop-change.change-index c.change-item.result c.loop-change-test.true c.change-item.is
    (Lowers-same _ _ _ _ _
    (changes_run (trees_of c.args.nests.now) (play_of c.args.play.now) (begins (term_of (trees_of c.args.nests.now) c.args.step.now.term))
    (take c.loop-change.change-index c.deref-change-items.result.now)) c.loop-change.invariant) _ _ c.in_err-id-2.ensures))

pub step_of-loop-change-preserved : goal.step_of-loop-change-preserved
step_of-loop-change-preserved t c =
    Lowers-same _ _ _ _ _
    (sym (changes_run (trees_of c.args.nests.now) (play_of c.args.play.now) (begins (term_of (trees_of c.args.nests.now) c.args.step.now.term))
    (take (c.loop-change.change-index + 1) c.deref-change-items.result.now)))
    (tree_more (change_built (trees_of c.args.nests.now))
    (step_built (play_of c.args.play.now) (begins (term_of (trees_of c.args.nests.now) c.args.step.now.term))) c.deref-change-items.result.now
    c.loop-change.change-index c.change-item.result c.loop-change-test.true c.change-item.is
    (Lowers-same _ _ _ _ _
    (changes_run (trees_of c.args.nests.now) (play_of c.args.play.now) (begins (term_of (trees_of c.args.nests.now) c.args.step.now.term))
    (take c.loop-change.change-index c.deref-change-items.result.now)) c.loop-change.invariant) _ _ c.in_ok-id-2.ensures)

pub step_of-returns : goal.step_of-returns
step_of-returns t c =
    let all = take_all c.loop-change.change-index c.deref-change-items.result.now c.loop-change-test.false in
    Lowers-same _ _ _ _ _
    (ap (λ (ks : List StepChange). step_built (play_of c.args.play.now)
    (fold (changed (trees_of c.args.nests.now)) (begins (term_of (trees_of c.args.nests.now) c.args.step.now.term)) ks))
    (all ∙ c.deref-change-items.ensures.value)) c.loop-change.invariant

pub term_of-returns-in-Value : goal.term_of-returns-in-Value
term_of-returns-in-Value t c = LowersTo-same _ _ _ _ c.push_value.result
    (value_is (trees_of c.args.nests.now) (play_of c.args.play.now) c.args.term.now _ c.in-Value.is) c.push_value.ensures

pub term_of-returns-in-Rest : goal.term_of-returns-in-Rest
term_of-returns-in-Rest t c = LowersTo-same _ _ _ _ c.push.result
    (rest_is (trees_of c.args.nests.now) (play_of c.args.play.now) c.args.term.now c.in-Rest.is)
    (pushed_row _ _ node.Silence 0 Silence c.push.result refl refl c.push.ensures.ok c.push.ensures.refused c.push.ensures.only c.push.ensures.err)

pub term_of-returns-in-Bracketed : goal.term_of-returns-in-Bracketed
term_of-returns-in-Bracketed t c = LowersTo-same _ _ _ _ c.operand_of.result
    (bracketed_is (trees_of c.args.nests.now) (play_of c.args.play.now) c.args.term.now _ c.in-Bracketed.is) c.operand_of.ensures

pub selected-returns-in_err-sequences : goal.selected-returns-in_err-sequences
selected-returns-in_err-sequences t c =
    exit_refused _ _ c.from_residual-in_err-sequences.result c.from_residual-in_err-sequences.ensures.1
    (selected_refused (named (trees_of c.args.nests.now) c.args.id) c.in_ok-values.values (finish_with c.args.finish.now) c.in_ok-values.ensures _ _ _
    (Refused-first _ c.in_err-sequences.ensures))

pub selected-returns-in_err-selector : goal.selected-returns-in_err-selector
selected-returns-in_err-selector t c =
    exit_refused _ _ c.from_residual-in_err-selector.result c.from_residual-in_err-selector.ensures.1
    (selected_refused (named (trees_of c.args.nests.now) c.args.id) c.in_ok-values.values (finish_with c.args.finish.now) c.in_ok-values.ensures _ _ _
    (stacked_row _ _ c.in_ok-sequences.sequences.items _ (Err c.in_err-selector.field-0.0) c.in_ok-sequences.ensures c.deref.ensures
    c.in_err-selector.ensures))

pub selected-returns : goal.selected-returns
selected-returns t c = selected_done (named (trees_of c.args.nests.now) c.args.id) c.in_ok-values.values
    (finish_with c.args.finish.now) c.in_ok-values.ensures _ _ c.in_ok-selector.selector _
    (stacked_row _ _ c.in_ok-sequences.sequences.items _ (Ok c.in_ok-selector.selector) c.in_ok-sequences.ensures c.deref.ensures
    c.in_ok-selector.ensures) refl
    (subst (λ (ns : List Rational). length ns ≤ 2048) (sym c.in_ok-values.ensures)
    (values_lowered (named (trees_of c.args.nests.now) c.args.id) (finish_with c.args.finish.now)
    (fills-way c.args.finish.now) _ c.in_ok-sequences.sequences.items c.in_ok-sequences.ensures))

pub argument_of-returns-in-Some : goal.argument_of-returns-in-Some
argument_of-returns-in-Some t c = argument_plain _ (named (trees_of c.args.nests.now) c.args.id) _ _ c.in-Some.ensures c.number_value.ensures.value

pub argument_of-returns-in-None : goal.argument_of-returns-in-None
argument_of-returns-in-None t c = LowersToArg-same _ _ _ _ c.selected.result
    (argument_chosen (named (trees_of c.args.nests.now) c.args.id) c.in-None.ensures) c.selected.ensures

pub changed-returns-in_err-factor-in-Fast : goal.changed-returns-in_err-factor-in-Fast
changed-returns-in_err-factor-in-Fast t c =
    exit_refused _ _ c.from_residual.result c.from_residual.ensures.1
    (fast_refused (trees_of c.args.nests.now) (tree_at c.args.table.now c.args.id) c.args.change.now c.in-Fast.operand c.deref.result.now _ _ _ c.in-Fast.is
    c.deref.ensures.value c.in_err-factor-in-Fast.ensures)

pub changed-returns-in_err-factor-in-Slow : goal.changed-returns-in_err-factor-in-Slow
changed-returns-in_err-factor-in-Slow t c =
    exit_refused _ _ c.from_residual-in_err-factor-in-Slow.result c.from_residual-in_err-factor-in-Slow.ensures.1
    (slow_refused (trees_of c.args.nests.now) (tree_at c.args.table.now c.args.id) c.args.change.now c.in-Slow.operand c.deref-in-Slow.result.now _ _ _
    c.in-Slow.is c.deref-in-Slow.ensures.value c.in_err-factor-in-Slow.ensures)

pub changed-returns-in_ok-factor-in-Fast : goal.changed-returns-in_ok-factor-in-Fast
changed-returns-in_ok-factor-in-Fast t c = fast_row (trees_of c.args.nests.now)
    (tree_at c.args.table.now c.args.id) c.args.change.now c.in-Fast.operand c.deref.result.now _ _ _ c.args.id c.in_ok-factor-in-Fast.factor
    c.choose.result refl c.requires.row c.in-Fast.is c.deref.ensures.value c.in_ok-factor-in-Fast.ensures c.choose.ensures

pub changed-returns-in_ok-factor-in-Slow : goal.changed-returns-in_ok-factor-in-Slow
changed-returns-in_ok-factor-in-Slow t c = slow_row (trees_of c.args.nests.now)
    (tree_at c.args.table.now c.args.id) c.args.change.now c.in-Slow.operand c.deref-in-Slow.result.now _ _ _ c.args.id c.in_ok-factor-in-Slow.factor
    c.choose-in-Slow.result refl c.requires.row c.in-Slow.is c.deref-in-Slow.ensures.value c.in_ok-factor-in-Slow.ensures c.choose-in-Slow.ensures

pub changed-returns-in_err-hits-in-Euclid : goal.changed-returns-in_err-hits-in-Euclid
changed-returns-in_err-hits-in-Euclid t c =
    exit_refused _ _ c.from_residual-in_err-hits-in-Euclid.result c.from_residual-in_err-hits-in-Euclid.ensures.1
    (hits_refused (trees_of c.args.nests.now) (tree_at c.args.table.now c.args.id) c.args.change.now _ _ _ c.in-Euclid.is _ _ _ c.in_err-hits-in-Euclid.ensures)

pub changed-returns-in_err-steps-in-Euclid : goal.changed-returns-in_err-steps-in-Euclid
changed-returns-in_err-steps-in-Euclid t c =
    exit_refused _ _ c.from_residual-in_err-steps-in-Euclid.result c.from_residual-in_err-steps-in-Euclid.ensures.1
    (steps_refused_after (trees_of c.args.nests.now) (tree_at c.args.table.now c.args.id) c.args.change.now _ _ _ c.in-Euclid.is _ _ _ _
    c.in_ok-hits-in-Euclid.ensures.gains c.in_err-steps-in-Euclid.ensures)

pub changed-returns-in_err-from-in-Euclid : goal.changed-returns-in_err-from-in-Euclid
changed-returns-in_err-from-in-Euclid t c =
    exit_refused _ _ c.from_residual-in_err-from-in-Euclid.result c.from_residual-in_err-from-in-Euclid.ensures.1
    (from_refused (trees_of c.args.nests.now) (tree_at c.args.table.now c.args.id) c.args.change.now _ _ _ c.in-Euclid.is _ _ _ _ _
    c.in_ok-hits-in-Euclid.ensures.gains c.in_ok-steps-in-Euclid.ensures.gains c.in_err-from-in-Euclid.ensures)

pub changed-choose_among-requires-clause-stands : goal.changed-choose_among-requires-clause-stands
changed-choose_among-requires-clause-stands t c =
    row_after (Gains-append c.in_ok-hits-in-Euclid.ensures.gains (Gains-append c.in_ok-steps-in-Euclid.ensures.gains c.in_ok-from-in-Euclid.ensures.gains))
    c.args.id c.requires.row

pub changed-choose_among-requires-clause-first : goal.changed-choose_among-requires-clause-first
changed-choose_among-requires-clause-first t c =
    argument_row (Gains-append c.in_ok-steps-in-Euclid.ensures.gains c.in_ok-from-in-Euclid.ensures.gains) c.in_ok-hits-in-Euclid.hits
    c.in_ok-hits-in-Euclid.ensures.row

pub changed-choose_among-requires-clause-second : goal.changed-choose_among-requires-clause-second
changed-choose_among-requires-clause-second t c =
    argument_row c.in_ok-from-in-Euclid.ensures.gains c.in_ok-steps-in-Euclid.steps c.in_ok-steps-in-Euclid.ensures.row

pub changed-returns-in_ok-from-in-Euclid : goal.changed-returns-in_ok-from-in-Euclid
changed-returns-in_ok-from-in-Euclid t c = euclid_row (trees_of c.args.nests.now)
    (tree_at c.args.table.now c.args.id) c.args.change.now _ _ _ c.in-Euclid.is _ _ _ _ _ c.args.id _ _ _ c.choose_among.result refl c.requires.row
    c.in_ok-hits-in-Euclid.ensures c.in_ok-steps-in-Euclid.ensures c.in_ok-from-in-Euclid.ensures c.choose_among.ensures

pub from_of-returns-in-None : goal.from_of-returns-in-None
from_of-returns-in-None t c = from_none _ (trees_of c.args.nests.now) c.args.from _ c.in-None.is c.whole.ensures

pub from_of-returns-in-Some : goal.from_of-returns-in-Some
from_of-returns-in-Some t c = LowersToArg-same _ _ _ _ c.argument_of.result
    (from_some (trees_of c.args.nests.now) c.args.from _ c.in-Some.is) c.argument_of.ensures

pub operand_of-returns-in_err-sequences-in-Nest : goal.operand_of-returns-in_err-sequences-in-Nest
operand_of-returns-in_err-sequences-in-Nest t c =
    exit_refused _ _ c.from_residual.result c.from_residual.ensures.1
    (Refused-same _ _ _ _ _
    (ap (λ (f : Finish). stacked (layers_built (play_of c.args.play.now) f (named (trees_of c.args.nests.now) c.in-Nest.nest)))
    c.finish_of-finish.ensures.value ∙ operand_nested (trees_of c.args.nests.now)
    (play_of c.args.play.now) c.args.operand.now.braces.items c.args.operand.now.last c.in-Nest.bracket c.in-Nest.nest
    (sym c.as_slice.ensures.value ∙ nil_of c.as_slice.result.now (omega arith)) c.in-Nest.is) (Refused-first _ c.in_err-sequences-in-Nest.ensures))

pub operand_of-returns-in_ok-sequences-in-Nest : goal.operand_of-returns-in_ok-sequences-in-Nest
operand_of-returns-in_ok-sequences-in-Nest t c = LowersTo-same _ _ _ _ c.stack_of.result
    (ap (λ (f : Finish). stacked (layers_built (play_of c.args.play.now) f (named (trees_of c.args.nests.now) c.in-Nest.nest)))
    c.finish_of-finish.ensures.value ∙ operand_nested (trees_of c.args.nests.now)
    (play_of c.args.play.now) c.args.operand.now.braces.items c.args.operand.now.last c.in-Nest.bracket c.in-Nest.nest
    (sym c.as_slice.ensures.value ∙ nil_of c.as_slice.result.now (omega arith)) c.in-Nest.is)
    (stacked_row _ _ c.in_ok-sequences-in-Nest.sequences.items _ c.stack_of.result c.in_ok-sequences-in-Nest.ensures c.deref.ensures
    c.stack_of.ensures)

pub operand_of-returns-in-Number : goal.operand_of-returns-in-Number
operand_of-returns-in-Number t c = LowersTo-same _ _ _ _ c.push.result
    (operand_none (trees_of c.args.nests.now) (play_of c.args.play.now) c.args.operand.now.braces.items c.args.operand.now.last _
    (sym c.as_slice.ensures.value ∙ nil_of c.as_slice.result.now (omega arith)) c.in-Number.is)
    (pushed_row _ _ node.Silence 0 Silence c.push.result refl refl c.push.ensures.ok c.push.ensures.refused c.push.ensures.only c.push.ensures.err)

pub operand_of-returns-in_err-sequences-in-Some : goal.operand_of-returns-in_err-sequences-in-Some
operand_of-returns-in_err-sequences-in-Some t c =
    exit_refused _ _ c.from_residual-in_err-sequences-in-Some.result c.from_residual-in_err-sequences-in-Some.ensures.1
    (Refused-same _ _ _ _ _
    (ap (λ (v : Rational). stacked
    (layers_built (play_of c.args.play.now) (at_pace v) (named (trees_of c.args.nests.now) (get_or c.as_slice.result.now 0 (record { index = 0 })))))
    c.number_value.ensures.value ∙ operand_paced (trees_of c.args.nests.now) (play_of c.args.play.now) c.args.operand.now.braces.items
    (get_or c.as_slice.result.now 0 (record { index = 0 }))
    (take (length c.as_slice.result.now - 1) (drop 1 c.as_slice.result.now)) c.args.operand.now.last c.in-Some.number
    (sym c.as_slice.ensures.value ∙ first_of c.as_slice.result.now (record { index = 0 }) c.in-len1-up.len_at_least) c.in-Some.ensures.some.0
    c.in-Some.ensures.some.1) (Refused-first _ c.in_err-sequences-in-Some.ensures))

pub operand_of-returns-in_ok-sequences-in-Some : goal.operand_of-returns-in_ok-sequences-in-Some
operand_of-returns-in_ok-sequences-in-Some t c = LowersTo-same _ _ _ _ c.stack_of-in-Some.result
    (ap (λ (v : Rational). stacked
    (layers_built (play_of c.args.play.now) (at_pace v) (named (trees_of c.args.nests.now) (get_or c.as_slice.result.now 0 (record { index = 0 })))))
    c.number_value.ensures.value ∙ operand_paced (trees_of c.args.nests.now) (play_of c.args.play.now) c.args.operand.now.braces.items
    (get_or c.as_slice.result.now 0 (record { index = 0 })) (take (length c.as_slice.result.now - 1) (drop 1 c.as_slice.result.now)) c.args.operand.now.last
    c.in-Some.number (sym c.as_slice.ensures.value ∙ first_of c.as_slice.result.now (record { index = 0 }) c.in-len1-up.len_at_least)
    c.in-Some.ensures.some.0 c.in-Some.ensures.some.1)
    (stacked_row _ _ c.in_ok-sequences-in-Some.sequences.items _ c.stack_of-in-Some.result c.in_ok-sequences-in-Some.ensures c.deref-in-Some.ensures
    c.stack_of-in-Some.ensures)

pub operand_of-returns-in_err-sequences-in-None : goal.operand_of-returns-in_err-sequences-in-None
operand_of-returns-in_err-sequences-in-None t c =
    exit_refused _ _ c.from_residual-in_err-sequences-in-None.result c.from_residual-in_err-sequences-in-None.ensures.1
    (Refused-same _ _ _ _ _
    (operand_chosen (trees_of c.args.nests.now) (play_of c.args.play.now) c.args.operand.now.braces.items
    (get_or c.as_slice.result.now 0 (record { index = 0 }))
    (take (length c.as_slice.result.now - 1) (drop 1 c.as_slice.result.now)) c.args.operand.now.last
    (sym c.as_slice.ensures.value ∙ first_of c.as_slice.result.now (record { index = 0 }) c.in-len1-up.len_at_least) c.in-None.ensures.none)
    (Refused-first _ c.in_err-sequences-in-None.ensures))

pub operand_of-returns-in_err-factor-in-None : goal.operand_of-returns-in_err-factor-in-None
operand_of-returns-in_err-factor-in-None t c =
    exit_refused _ _ c.from_residual-in_err-factor-in-None.result c.from_residual-in_err-factor-in-None.ensures.1
    (Refused-same _ _ _ _ _
    (operand_chosen (trees_of c.args.nests.now) (play_of c.args.play.now) c.args.operand.now.braces.items
    (get_or c.as_slice.result.now 0 (record { index = 0 }))
    (take (length c.as_slice.result.now - 1) (drop 1 c.as_slice.result.now)) c.args.operand.now.last
    (sym c.as_slice.ensures.value ∙ first_of c.as_slice.result.now (record { index = 0 }) c.in-len1-up.len_at_least) c.in-None.ensures.none)
    (Refused-append c.in_ok-sequences-in-None.ensures.gains (Refused-first _ c.in_err-factor-in-None.ensures)))

pub operand_of-returns-in_ok-factor-in-None : goal.operand_of-returns-in_ok-factor-in-None
operand_of-returns-in_ok-factor-in-None t c = LowersTo-same _ _ _ _ c.choose.result
    (operand_chosen (trees_of c.args.nests.now) (play_of c.args.play.now) c.args.operand.now.braces.items
    (get_or c.as_slice.result.now 0 (record { index = 0 })) (take (length c.as_slice.result.now - 1) (drop 1 c.as_slice.result.now)) c.args.operand.now.last
    (sym c.as_slice.ensures.value ∙ first_of c.as_slice.result.now (record { index = 0 }) c.in-len1-up.len_at_least) c.in-None.ensures.none)
    (factor_row _ _ _ c.choose.result c.in_ok-sequences-in-None.ensures c.in_ok-factor-in-None.ensures c.choose.ensures)

pub factor_of-returns-in_err-waiting-in-len1-up : goal.factor_of-returns-in_err-waiting-in-len1-up
factor_of-returns-in_err-waiting-in-len1-up t c =
    exit_refused _ _ c.from_residual.result c.from_residual.ensures.1
    (RefusedArg-same _ _ _ _ _
    (sym (scaled_waits (trees_of c.args.nests.now) c.args.braces.now (take (length c.args.braces.now - 1) c.args.braces.now)
    (get_or c.args.braces.now (length c.args.braces.now - 1) (record { index = 0 })) c.args.last c.in-Number.number c.in-Number.is
    (last_of c.args.braces.now (record { index = 0 }) c.in-len1-up.len_at_least))) (Refused-first _ c.in_err-waiting-in-len1-up.ensures))

pub factor_of-returns-in_err-factor-in-len1-up : goal.factor_of-returns-in_err-factor-in-len1-up
factor_of-returns-in_err-factor-in-len1-up t c =
    exit_refused _ _ c.from_residual-in_err-factor-in-len1-up.result c.from_residual-in_err-factor-in-len1-up.ensures.1
    (RefusedArg-same _ _ _ _ _
    (ap (λ (v : Rational). all_back (waits_built (map (named (trees_of c.args.nests.now)) (take (length c.args.braces.now - 1) c.args.braces.now)))
    (selected (named (trees_of c.args.nests.now) (get_or c.args.braces.now (length c.args.braces.now - 1) (record { index = 0 })))
    (layers_built (indices_of (named (trees_of c.args.nests.now) (get_or c.args.braces.now (length c.args.braces.now - 1) (record { index = 0 }))))
    (at_pace v) (named (trees_of c.args.nests.now) (get_or c.args.braces.now (length c.args.braces.now - 1) (record { index = 0 }))))))
    c.number_value-in-len1-up.ensures.value
    ∙ (sym (scaled_waits (trees_of c.args.nests.now) c.args.braces.now (take (length c.args.braces.now - 1) c.args.braces.now)
    (get_or c.args.braces.now (length c.args.braces.now - 1) (record { index = 0 })) c.args.last c.in-Number.number c.in-Number.is
    (last_of c.args.braces.now (record { index = 0 }) c.in-len1-up.len_at_least))))
    (factor_refused _ _ c.in_ok-waiting-in-len1-up.ensures _ _ c.in_err-factor-in-len1-up.ensures))

pub factor_of-returns-in_ok-factor-in-len1-up : goal.factor_of-returns-in_ok-factor-in-len1-up
factor_of-returns-in_ok-factor-in-len1-up t c = LowersToArg-same _ _ _ _ c.chosen_back.result
    (ap (λ (v : Rational). all_back (waits_built (map (named (trees_of c.args.nests.now)) (take (length c.args.braces.now - 1) c.args.braces.now)))
    (selected (named (trees_of c.args.nests.now) (get_or c.args.braces.now (length c.args.braces.now - 1) (record { index = 0 })))
    (layers_built (indices_of (named (trees_of c.args.nests.now) (get_or c.args.braces.now (length c.args.braces.now - 1) (record { index = 0 }))))
    (at_pace v) (named (trees_of c.args.nests.now) (get_or c.args.braces.now (length c.args.braces.now - 1) (record { index = 0 }))))))
    c.number_value-in-len1-up.ensures.value
    ∙ (sym (scaled_waits (trees_of c.args.nests.now) c.args.braces.now (take (length c.args.braces.now - 1) c.args.braces.now)
    (get_or c.args.braces.now (length c.args.braces.now - 1) (record { index = 0 })) c.args.last c.in-Number.number c.in-Number.is
    (last_of c.args.braces.now (record { index = 0 }) c.in-len1-up.len_at_least))))
    (back_row _ _ c.in_ok-waiting-in-len1-up.ensures c.in_ok-factor-in-len1-up.ensures _ c.chosen_back.result c.chosen_back.ensures)

pub factor_of-returns-in-empty : goal.factor_of-returns-in-empty
factor_of-returns-in-empty t c = factor_plain (trees_of c.args.nests.now) _ c.args.braces.now c.args.last _ _
    (nil_of c.args.braces.now (omega arith)) c.in-Number.is c.number_value.ensures.value

pub factor_of-returns-in_err-waiting-in-Nest : goal.factor_of-returns-in_err-waiting-in-Nest
factor_of-returns-in_err-waiting-in-Nest t c =
    exit_refused _ _ c.from_residual-in_err-waiting-in-Nest.result c.from_residual-in_err-waiting-in-Nest.ensures.1
    (RefusedArg-same _ _ _ _ _ (sym (nested_waits (trees_of c.args.nests.now) c.args.braces.now c.args.last c.in-Nest.bracket c.in-Nest.nest c.in-Nest.is))
    (Refused-first _ c.in_err-waiting-in-Nest.ensures))

pub factor_of-returns-in_err-factor-in-Nest : goal.factor_of-returns-in_err-factor-in-Nest
factor_of-returns-in_err-factor-in-Nest t c =
    exit_refused _ _ c.from_residual-in_err-factor-in-Nest.result c.from_residual-in_err-factor-in-Nest.ensures.1
    (RefusedArg-same _ _ _ _ _
    (ap (λ (f : Finish). all_back (waits_built (map (named (trees_of c.args.nests.now)) c.args.braces.now))
    (selected (named (trees_of c.args.nests.now) c.in-Nest.nest)
    (layers_built (indices_of (named (trees_of c.args.nests.now) c.in-Nest.nest)) f (named (trees_of c.args.nests.now) c.in-Nest.nest))))
    c.finish_of-finish.ensures.value
    ∙ (sym (nested_waits (trees_of c.args.nests.now) c.args.braces.now c.args.last c.in-Nest.bracket c.in-Nest.nest c.in-Nest.is)))
    (factor_refused _ _ c.in_ok-waiting-in-Nest.ensures _ _ c.in_err-factor-in-Nest.ensures))

pub factor_of-returns-in_ok-factor-in-Nest : goal.factor_of-returns-in_ok-factor-in-Nest
factor_of-returns-in_ok-factor-in-Nest t c = LowersToArg-same _ _ _ _ c.chosen_back-in-Nest.result
    (ap (λ (f : Finish). all_back (waits_built (map (named (trees_of c.args.nests.now)) c.args.braces.now))
    (selected (named (trees_of c.args.nests.now) c.in-Nest.nest)
    (layers_built (indices_of (named (trees_of c.args.nests.now) c.in-Nest.nest)) f (named (trees_of c.args.nests.now) c.in-Nest.nest))))
    c.finish_of-finish.ensures.value
    ∙ (sym (nested_waits (trees_of c.args.nests.now) c.args.braces.now c.args.last c.in-Nest.bracket c.in-Nest.nest c.in-Nest.is)))
    (back_row _ _ c.in_ok-waiting-in-Nest.ensures c.in_ok-factor-in-Nest.ensures _ c.chosen_back-in-Nest.result c.chosen_back-in-Nest.ensures)

pub waiting_of-returns-in_err-values : goal.waiting_of-returns-in_err-values
waiting_of-returns-in_err-values t c = exit_want _ _ c.from_residual.result c.from_residual.ensures.1 (c.loop-id.invariant.gains)

pub waiting_of-returns-in_err-sequences : goal.waiting_of-returns-in_err-sequences
waiting_of-returns-in_err-sequences t c =
    exit_refused _ _ c.from_residual-in_err-sequences.result c.from_residual-in_err-sequences.ensures.1
    (waits_refused (trees_of c.args.nests.now) c.args.braces.now c.loop-id.id-index
    (get_or c.args.braces.now c.loop-id.id-index (record { index = 0 })) c.loop-id-test.true
    (same_default c.args.braces.now c.loop-id.id-index _ _ c.loop-id-test.true) c.loop-id.invariant _ c.in_ok-values.ensures _ _
    c.in_err-sequences.ensures)

pub waiting_of-returns-in_err-push : goal.waiting_of-returns-in_err-push
waiting_of-returns-in_err-push t c = exit_want _ _ c.from_residual-in_err-push.result c.from_residual-in_err-push.ensures.1
    (Gains-append c.loop-id.invariant.gains c.in_ok-sequences.ensures.gains)

pub waiting_of-loop-id-preserved : goal.waiting_of-loop-id-preserved
waiting_of-loop-id-preserved t c = waits_more (trees_of c.args.nests.now) c.args.braces.now c.loop-id.id-index
    (get_or c.args.braces.now c.loop-id.id-index (record { index = 0 })) c.loop-id-test.true
    (same_default c.args.braces.now c.loop-id.id-index _ _ c.loop-id-test.true) c.loop-id.invariant _ c.in_ok-values.ensures _ _ _ _
    c.in_ok-sequences.ensures refl refl c.in_ok-push.ensures.items

pub waiting_of-returns : goal.waiting_of-returns
waiting_of-returns t c =
    let all = take_all c.loop-id.id-index c.args.braces.now c.loop-id-test.false in
    let Q : List NestId → Type 0 = λ ids. LowersWaits c.args.table.now c.loop-id.table
    (waits_built (map (named (trees_of c.args.nests.now)) ids)) c.loop-id.waiting.items in
    subst Q all c.loop-id.invariant

pub layers_of-returns-then-at-nests : goal.layers_of-returns-then-at-nests
unfolding layers_built
layers_of-returns-then-at-nests t c = LowersSteps-same _ _ _ _ _
    (ap (layers_built (play_of c.args.play.now) (finish_with c.args.finish.now)) (sym (named-past c.args.nests.now c.args.id (omega arith))))
    (no_steps _ _ c.new-joined.ensures.items)

pub layers_of-sequence_of-requires : goal.layers_of-sequence_of-requires
layers_of-sequence_of-requires t c =
    let valid = nest_sequence (kind_of c.args.play.now) c.args.nests.now c.args.id c.index-nests-at.result c.as_slice-sequence-items.result.now
    c.loop-sequence.sequence-index c.sequence-item.result (omega arith) c.index-nests-at.is c.as_slice-sequence-items.ensures c.loop-sequence-test.true
    c.sequence-item.is c.requires.valid in
    let turn = sequence-turn c.args.play.now c.loop-sequence.joined.items (finish_with c.args.finish.now) (fills-way c.args.finish.now) c.args.nests.now
    c.args.id c.index-nests-at.result c.as_slice-sequence-items.result.now c.loop-sequence.sequence-index c.sequence-item.result (omega arith)
    c.index-nests-at.is c.as_slice-sequence-items.ensures c.loop-sequence-test.true c.sequence-item.is c.loop-sequence.invariant c.requires.turn in
    (omega (arith, length-take c.args.id.index c.args.nests.now), (c.requires.played, (valid, turn)))

pub layers_of-parts_of-parts-requires : goal.layers_of-parts_of-parts-requires
layers_of-parts_of-parts-requires t c = (
  kind_of c.args.play.now,
  (
    trees_of (take c.args.id.index c.args.nests.now),
    (nest_sequence (kind_of c.args.play.now) c.args.nests.now c.args.id c.index-nests-at.result c.as_slice-sequence-items.result.now
        c.loop-sequence.sequence-index c.sequence-item.result (omega arith) c.index-nests-at.is c.as_slice-sequence-items.ensures c.loop-sequence-test.true
        c.sequence-item.is c.requires.valid),
  ),
)

pub layers_of-finished-requires-clause-shares : goal.layers_of-finished-requires-clause-shares
layers_of-finished-requires-clause-shares t c = sequence_lowered (kind_of c.args.play.now) (play_of c.args.play.now)
    (sequence_of (trees_of (take c.args.id.index c.args.nests.now)) c.sequence-item.result.groups.items) c.in_ok-steps.steps.items c.deref.result.now
    c.deref.ensures c.in_ok-steps.ensures
    (nest_sequence (kind_of c.args.play.now) c.args.nests.now c.args.id c.index-nests-at.result c.as_slice-sequence-items.result.now
    c.loop-sequence.sequence-index c.sequence-item.result (omega arith) c.index-nests-at.is c.as_slice-sequence-items.ensures c.loop-sequence-test.true
    c.sequence-item.is c.requires.valid)

pub sequence_of-group_of-requires-in-loop-group : goal.sequence_of-group_of-requires-in-loop-group
sequence_of-group_of-requires-in-loop-group t c =
    let valid = group_at (kind_of c.args.play.now) (trees_of c.args.nests.now) c.args.sequence.now.groups.items c.as_slice.result.now
    c.loop-group.group-index c.group-item-in-loop-group.result c.as_slice.ensures c.loop-group-test.true c.group-item-in-loop-group.is
    c.requires.valid in
    let turn = group-turn c.args.play.now c.loop-group.steps.items (trees_of c.args.nests.now) c.args.sequence.now.groups.items c.as_slice.result.now
    c.loop-group.group-index c.group-item-in-loop-group.result c.as_slice.ensures c.loop-group-test.true c.group-item-in-loop-group.is
    c.loop-group.invariant c.requires.turn in
    (omega arith, (c.requires.played, (valid, turn)))

pub sequence_of-timecat_of-requires-clause-shares : goal.sequence_of-timecat_of-requires-clause-shares
sequence_of-timecat_of-requires-clause-shares t c = group_lowered (kind_of c.args.play.now) (play_of c.args.play.now)
    (group_of (trees_of c.args.nests.now) c.group-item-in-loop-group.result.elements.items) c.in_ok-inner-in_default.inner.items c.deref.result.now
    c.deref.ensures c.in_ok-inner-in_default.ensures
    (group_at (kind_of c.args.play.now) (trees_of c.args.nests.now) c.args.sequence.now.groups.items c.as_slice.result.now c.loop-group.group-index
    c.group-item-in-loop-group.result c.as_slice.ensures c.loop-group-test.true c.group-item-in-loop-group.is c.requires.valid)

pub group_of-add_element-requires : goal.group_of-add_element-requires
group_of-add_element-requires t c =
    let short = group_so_far (kind_of c.args.play.now) (play_of c.args.play.now) (trees_of c.args.nests.now) c.args.group.now.elements.items
    c.deref-element-items.result.now c.loop-element.element-index c.loop-element.steps.items c.deref-element-items.ensures.value c.loop-element.invariant
    c.requires.valid in
    let valid = element_at (kind_of c.args.play.now) (trees_of c.args.nests.now) c.args.group.now.elements.items c.deref-element-items.result.now
    c.loop-element.element-index c.element-item.result c.deref-element-items.ensures.value c.loop-element-test.true c.element-item.is c.requires.valid in
    let turn = element-turn c.args.play.now c.loop-element.steps.items (trees_of c.args.nests.now) c.args.group.now.elements.items
    c.deref-element-items.result.now c.loop-element.element-index c.element-item.result c.deref-element-items.ensures.value c.loop-element-test.true
    c.element-item.is c.loop-element.invariant c.requires.turn in
    (omega arith, (c.loop-element.invariant.rows, (short, (c.requires.played, (valid, turn)))))

pub step_of-term_of-requires : goal.step_of-term_of-requires
step_of-term_of-requires t c =
    let valid = term_valid (kind_of c.args.play.now) (trees_of c.args.nests.now) c.args.step.now c.requires.valid in
    let same = changes_values (trees_of c.args.nests.now) (begins (term_of (trees_of c.args.nests.now) c.args.step.now.term)) c.args.step.now.changes.items in
    (omega arith, (c.requires.played, (valid, subst (ComeInTurn c.args.play.now c.args.table.now) same c.requires.turn)))

pub step_of-changed-requires : goal.step_of-changed-requires
step_of-changed-requires t c = (
  omega arith,
  (
    c.loop-change.invariant.row,
    change_at (kind_of c.args.play.now)
        (trees_of c.args.nests.now) c.args.step.now c.deref-change-items.result.now c.loop-change.change-index c.change-item.result
        c.deref-change-items.ensures.value c.loop-change-test.true c.change-item.is c.requires.valid,
  ),
)

pub changed-choose-requires-in-Slow-clause-takes : goal.changed-choose-requires-in-Slow-clause-takes
changed-choose-requires-in-Slow-clause-takes t c = bounded_in c.factor_of-in-Slow.new.table c.in_ok-factor-in-Slow.factor
    (slow_rates (trees_of c.args.nests.now) c.args.change.now c.requires.valid c.in-Slow.operand c.deref-in-Slow.result.now c.in_ok-factor-in-Slow.factor
    c.in-Slow.is c.deref-in-Slow.ensures.value c.in_ok-factor-in-Slow.ensures)

pub changed-from_of-requires : goal.changed-from_of-requires
changed-from_of-requires t c = (
  omega arith,
  euclid_from (trees_of c.args.nests.now) c.args.change.now c.requires.valid c.in-Euclid.hits c.in-Euclid.steps c.in-Euclid.from
      c.in-Euclid.is,
)

pub changed-choose_among-requires-clause-takes : goal.changed-choose_among-requires-clause-takes
changed-choose_among-requires-clause-takes t c = euclid_taken
    (trees_of c.args.nests.now) c.args.change.now c.requires.valid c.in-Euclid.hits c.in-Euclid.steps c.in-Euclid.from c.in-Euclid.is
    c.in_ok-hits-in-Euclid.hits c.in_ok-steps-in-Euclid.steps c.in_ok-from-in-Euclid.from c.in_ok-hits-in-Euclid.ensures c.in_ok-steps-in-Euclid.ensures
    c.in_ok-from-in-Euclid.ensures

pub factor_of-waiting_of-requires : goal.factor_of-waiting_of-requires
factor_of-waiting_of-requires t c = (
  omega arith,
  (ends_valid (trees_of c.args.nests.now) c.args.braces.now (take (length c.args.braces.now - 1) c.args.braces.now)
      (get_or c.args.braces.now (length c.args.braces.now - 1) (record { index = 0 }))
      (last_of c.args.braces.now (record { index = 0 }) c.in-len1-up.len_at_least)
      (factors_valid (trees_of c.args.nests.now) c.args.braces.now c.args.last c.requires.valid)).0,
)

pub factor_of-chosen_back-requires-clause-bounded : goal.factor_of-chosen_back-requires-clause-bounded
factor_of-chosen_back-requires-clause-bounded t c = waits_bounded (trees_of c.args.nests.now)
    (take (length c.args.braces.now - 1) c.args.braces.now) _ c.waiting_of.new.table c.in_ok-waiting-in-len1-up.waiting.items
    c.in_ok-waiting-in-len1-up.ensures
    (ends_valid (trees_of c.args.nests.now) c.args.braces.now (take (length c.args.braces.now - 1) c.args.braces.now)
    (get_or c.args.braces.now (length c.args.braces.now - 1) (record { index = 0 }))
    (last_of c.args.braces.now (record { index = 0 }) c.in-len1-up.len_at_least)
    (factors_valid (trees_of c.args.nests.now) c.args.braces.now c.args.last c.requires.valid)).0

pub factor_of-chosen_back-requires-clause-rates : goal.factor_of-chosen_back-requires-clause-rates
factor_of-chosen_back-requires-clause-rates t c = lowered_all is_rate _ c.in_ok-factor-in-len1-up.factor c.in_ok-factor-in-len1-up.ensures
    (selected_rates (named (trees_of c.args.nests.now) (get_or c.args.braces.now (length c.args.braces.now - 1) (record { index = 0 })))
    (ends_valid (trees_of c.args.nests.now) c.args.braces.now (take (length c.args.braces.now - 1) c.args.braces.now)
    (get_or c.args.braces.now (length c.args.braces.now - 1) (record { index = 0 }))
    (last_of c.args.braces.now (record { index = 0 }) c.in-len1-up.len_at_least)
    (factors_valid (trees_of c.args.nests.now) c.args.braces.now c.args.last c.requires.valid)).1)

pub factor_of-waiting_of-requires-in-Nest : goal.factor_of-waiting_of-requires-in-Nest
factor_of-waiting_of-requires-in-Nest t c = (omega arith, factors_valid (trees_of c.args.nests.now) c.args.braces.now c.args.last c.requires.valid)

pub factor_of-chosen_back-requires-in-Nest-clause-bounded : goal.factor_of-chosen_back-requires-in-Nest-clause-bounded
factor_of-chosen_back-requires-in-Nest-clause-bounded t c = waits_bounded
    (trees_of c.args.nests.now) c.args.braces.now _ c.waiting_of-in-Nest.new.table c.in_ok-waiting-in-Nest.waiting.items c.in_ok-waiting-in-Nest.ensures
    (factors_valid (trees_of c.args.nests.now) c.args.braces.now c.args.last c.requires.valid)

pub factor_of-chosen_back-requires-in-Nest-clause-rates : goal.factor_of-chosen_back-requires-in-Nest-clause-rates
factor_of-chosen_back-requires-in-Nest-clause-rates t c = lowered_all is_rate _ c.in_ok-factor-in-Nest.factor c.in_ok-factor-in-Nest.ensures
    (selected_rates (named (trees_of c.args.nests.now) c.in-Nest.nest)
    (nested_valid (trees_of c.args.nests.now) c.args.braces.now c.args.last c.in-Nest.bracket c.in-Nest.nest c.in-Nest.is c.requires.valid))

pub operand_of-layers_of-requires-in-None : goal.operand_of-layers_of-requires-in-None
operand_of-layers_of-requires-in-None t c =
    let valid = first_valid (kind_of c.args.play.now) (trees_of c.args.nests.now) c.as_slice.result.now c.args.operand.now.braces.items
    c.args.operand.now.last (record { index = 0 }) (sym c.as_slice.ensures.value) c.in-len1-up.len_at_least c.requires.valid in
    let turn = operand-turn c.args.play.now c.args.table.now (trees_of c.args.nests.now) c.args.operand.now.braces.items
    (get_or c.as_slice.result.now 0 (record { index = 0 })) (take (length c.as_slice.result.now - 1) (drop 1 c.as_slice.result.now)) c.args.operand.now.last
    (sym c.as_slice.ensures.value ∙ first_of c.as_slice.result.now (record { index = 0 }) c.in-len1-up.len_at_least) c.requires.turn in
    (omega arith, (c.requires.played, (refl, (valid, turn))))

pub operand_of-factor_of-requires : goal.operand_of-factor_of-requires
operand_of-factor_of-requires t c = (
  omega arith,
  (factor_after (kind_of c.args.play.now) (trees_of c.args.nests.now) c.args.operand.now.braces.items
      (get_or c.as_slice.result.now 0 (record { index = 0 })) (take (length c.as_slice.result.now - 1) (drop 1 c.as_slice.result.now)) c.args.operand.now.last
      (sym c.as_slice.ensures.value ∙ first_of c.as_slice.result.now (record { index = 0 }) c.in-len1-up.len_at_least) c.requires.valid),
)

pub operand_of-choose-requires-clause-takes : goal.operand_of-choose-requires-clause-takes
operand_of-choose-requires-clause-takes t c = rates_in c.factor_of.new.table c.in_ok-factor-in-None.factor
    (lowered_all is_rate _ c.in_ok-factor-in-None.factor c.in_ok-factor-in-None.ensures
    (factor_rates (operand_with (trees_of c.args.nests.now)
    (braces_of (trees_of c.args.nests.now) (take (length c.as_slice.result.now - 1) (drop 1 c.as_slice.result.now))) c.args.operand.now.last)
    (factor_after (kind_of c.args.play.now) (trees_of c.args.nests.now) c.args.operand.now.braces.items
    (get_or c.as_slice.result.now 0 (record { index = 0 })) (take (length c.as_slice.result.now - 1) (drop 1 c.as_slice.result.now)) c.args.operand.now.last
    (sym c.as_slice.ensures.value ∙ first_of c.as_slice.result.now (record { index = 0 }) c.in-len1-up.len_at_least) c.requires.valid)))

pub operand_of-choose-requires-clause-stands : goal.operand_of-choose-requires-clause-stands
operand_of-choose-requires-clause-stands t c = (
  steps_after c.in_ok-factor-in-None.ensures.gains c.in_ok-sequences-in-None.sequences.items c.in_ok-sequences-in-None.ensures.rows,
  layers_lowered (kind_of c.args.play.now) (play_of c.args.play.now) in_turn fills-in_turn
      (named (trees_of c.args.nests.now) (get_or c.as_slice.result.now 0 (record { index = 0 }))) c.in_ok-sequences-in-None.sequences.items
      c.in_ok-sequences-in-None.ensures
      (first_valid (kind_of c.args.play.now) (trees_of c.args.nests.now) c.as_slice.result.now c.args.operand.now.braces.items c.args.operand.now.last
      (record { index = 0 }) (sym c.as_slice.ensures.value) c.in-len1-up.len_at_least c.requires.valid),
)

pub selected-layers_of-requires : goal.selected-layers_of-requires
selected-layers_of-requires t c =
    (omega arith, (refl, (c.requires.way, (c.requires.valid, distinct-turn c.in_ok-values.values _ (length c.args.table.now) c.in_ok-values.ensures))))

pub waiting_of-layers_of-requires : goal.waiting_of-layers_of-requires
waiting_of-layers_of-requires t c =
    let valid = AllPass-from_list_all (λ (id : NestId). is_valid Ratio (named (trees_of c.args.nests.now) id)) c.args.braces.now c.requires.valid
    c.loop-id.id-index (record { index = 0 }) c.loop-id-test.true in
    (omega arith, (refl, (refl, (valid, distinct-turn c.in_ok-values.values _ (length c.loop-id.table) c.in_ok-values.ensures))))

pub selected-stack_of-requires-clause-few : goal.selected-stack_of-requires-clause-few
selected-stack_of-requires-clause-few t c =
    sequences-few (index_leaf c.in_ok-values.values) (finish_with c.args.finish.now) (fills-way c.args.finish.now) (named (trees_of c.args.nests.now) c.args.id)
    c.in_ok-sequences.sequences.items c.deref.result.now c.deref.ensures c.in_ok-sequences.ensures

pub operand_of-stack_of-requires-clause-few : goal.operand_of-stack_of-requires-clause-few
operand_of-stack_of-requires-clause-few t c =
    sequences-few (play_of c.args.play.now) (finish_with c.finish_of-finish.result) (fills-way c.finish_of-finish.result)
    (named (trees_of c.args.nests.now) c.in-Nest.nest)
    c.in_ok-sequences-in-Nest.sequences.items c.deref.result.now c.deref.ensures c.in_ok-sequences-in-Nest.ensures

pub operand_of-stack_of-requires-in-Some-clause-few : goal.operand_of-stack_of-requires-in-Some-clause-few
operand_of-stack_of-requires-in-Some-clause-few t c =
    sequences-few (play_of c.args.play.now) (at_pace c.number_value.result) (fills-at_pace c.number_value.result)
    (named (trees_of c.args.nests.now) (get_or c.as_slice.result.now 0 (record { index = 0 })))
    c.in_ok-sequences-in-Some.sequences.items c.deref-in-Some.result.now c.deref-in-Some.ensures c.in_ok-sequences-in-Some.ensures
