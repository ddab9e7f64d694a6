use Rattle.std.proofs.Common.{◌≡◌, ℕ, ◌<◌, arith, subst, ◌∙◌}
use Rattle.std.proofs.lemmas.Int.{ints}
use lib.Signed.{le_z}
use Rattle.tdl_mini_tree.specs.Sizes.{range_length}
use Rattle.tdl_mini_tree.specs.Values.{integer_of, counted}
use Rattle.tdl_mini_rows.specs.Lowered.{range_built}
use Rattle.tdl_mini_rows.specs.inside.Views.{play_of, steps_at, LowersSteps}
use Rattle.tdl_rows.proofs.Gained.{exit_refused, exit_want, Gains-append}
use Rattle.tdl_mini_rows.proofs.RangeRows.{range_more, range_refused, value_at}
use Rattle.tdl_mini_rows.specs.inside.Bounds.{kind_of}
use Rattle.tdl_mini_rows.proofs.RangeNumerals.{range_value}
use Rattle.tdl_mini_rows.proofs.Turns.{number-turn}
use Rattle.tdl_mini_rows.proofs.steps.add_range.Goals as goal

pub returns-in_err-id : goal.returns-in_err-id
returns-in_err-id c =
    exit_refused _ _ c.from_residual.result c.from_residual.ensures.1
    (range_refused (play_of c.args.play.now) c.args.table.now c.loop-i.table (steps_at c.args.table.now c.args.steps.now.items)
    (le_z (integer_of c.args.first) (integer_of c.args.last)) c.loop-i.i (integer_of c.args.first) c.loop-i.steps.items c.loop-i.invariant _
    (value_at _ _ _ _ c.integer_value-value.ensures (omega (arith, ints)) c.range_number.ensures.value) _ _ (range_length c.args.first c.args.last)
    (let P : ℕ → Type 0 = λ k. c.loop-i.i < k in subst P c.range_length-i-end.ensures.value c.loop-i-test.true) c.in_err-id.ensures)

pub returns-in_err-push : goal.returns-in_err-push
returns-in_err-push c = exit_want _ _ c.from_residual-in_err-push.result c.from_residual-in_err-push.ensures.1
    (Gains-append c.loop-i.invariant.gains c.in_ok-id.ensures.gains)

pub loop-i-preserved : goal.loop-i-preserved
loop-i-preserved c = range_more (play_of c.args.play.now) c.args.table.now c.loop-i.table (steps_at c.args.table.now c.args.steps.now.items)
    (le_z (integer_of c.args.first) (integer_of c.args.last)) c.loop-i.i (integer_of c.args.first) c.loop-i.steps.items c.loop-i.invariant _
    (value_at _ _ _ _ c.integer_value-value.ensures (omega (arith, ints)) c.range_number.ensures.value) _ c.in_ok-id.id _ c.in_ok-id.ensures
    c.in_ok-push.ensures.ok

pub returns : goal.returns
returns c =
    let e : c.loop-i.i ≡ c.range_length-i-end.result = omega arith in
    let P : ℕ → Type 0 = λ k. LowersSteps c.args.table.now c.loop-i.table
    (range_built (play_of c.args.play.now) (steps_at c.args.table.now c.args.steps.now.items)
    (counted (le_z (integer_of c.args.first) (integer_of c.args.last)) k (integer_of c.args.first))) c.loop-i.steps.items in
    subst P (e ∙ c.range_length-i-end.ensures.value) c.loop-i.invariant

pub push_value-requires-clause-turn : goal.push_value-requires-clause-turn
push_value-requires-clause-turn c =
    let P : ℕ → Type 0 = λ k. c.loop-i.i < k in
    number-turn c.args.play.now c.loop-i.steps.items (steps_at c.args.table.now c.args.steps.now.items)
    (le_z (integer_of c.args.first) (integer_of c.args.last)) c.loop-i.i (range_length c.args.first c.args.last) (integer_of c.args.first) _
    (subst P c.range_length-i-end.ensures.value c.loop-i-test.true)
    (value_at _ _ _ _ c.integer_value-value.ensures (omega (arith, ints)) c.range_number.ensures.value) c.loop-i.invariant c.requires.turn

pub push_value-requires-clause-value : goal.push_value-requires-clause-value
push_value-requires-clause-value c =
    let P : ℕ → Type 0 = λ k. c.loop-i.i < k in
    range_value (kind_of c.args.play.now) c.args.first c.args.last c.loop-i.i _
    (subst P c.range_length-i-end.ensures.value c.loop-i-test.true) c.requires.first c.requires.last
    (value_at _ _ _ _ c.integer_value-value.ensures (omega (arith, ints)) c.range_number.ensures.value)
