use Rattle.std.proofs.Common.{◌≡◌, ℕ, pos, neg_ℤ, List, ap, ap₂, ◌∙◌, subst, arith, take_all}
use Rattle.std.specs.List.{range_with_len}
use Rattle.std.proofs.lemmas.Int.{ints}
use Rattle.std.proofs.lemmas.List.FromFn.{length-range_with_len}
use Rattle.tdl_fraction.specs.Rational.{frac}
use Rattle.tdl_expr.specs.Rows.{tree_at}
use Rattle.tdl_rows.specs.Built.{each}
use Rattle.tdl_rows.specs.inside.Views.{LowersIds}
use Rattle.tdl_rows.proofs.Gained.{exit_refused, exit_want, Gains-append, Lowers-same, Refused-same}
use Rattle.tdl_combinator.specs.Makings.{later_of, turned_on}
use Rattle.tdl_combinator.proofs.Turns.{turn_fits, turns_more, turns_refused}
use Rattle.tdl_combinator.proofs.in_time.turns_of.Goals as goal

pub fraction-by-requires-clause-in_range : goal.fraction-by-requires-clause-in_range
fraction-by-requires-clause-in_range c = turn_fits _ _ c.loop-i.i
    (omega (arith, ints, c.from.ensures, c.loop-i-test.true, c.requires.few))
    (omega (arith, ints, c.from-in-loop-i.ensures, c.loop-i-test.true))
    (omega (arith, ints, c.from-in-loop-i.ensures, c.requires.few))

pub loop-i-preserved : goal.loop-i-preserved
loop-i-preserved c =
    let before = c.loop-i.invariant in
    let by = c.fraction-by.result in
    let is : by ≡ frac (neg_ℤ (pos c.loop-i.i)) c.args.shares = c.fraction-by.ensures ∙ ap₂ frac
    (omega (arith, ints, c.from.ensures, c.loop-i-test.true, c.requires.few)) (omega (arith, ints, c.from-in-loop-i.ensures)) in
    turns_more c.args.shares (tree_at c.args.table.now c.args.child) c.loop-i.i (omega (arith, c.loop-i-test.true)) c.loop-i.turns.items before _
    c.in_ok-turned.turned _ by is c.in_ok-push.ensures.items
    (Lowers-same _ _ _ _ _ (ap (later_of by) (before.gains.older c.args.child c.requires.row)) c.in_ok-turned.ensures)

pub returns-in_err-turned : goal.returns-in_err-turned
returns-in_err-turned c =
    let before = c.loop-i.invariant in
    let by = c.fraction-by.result in
    let is : by ≡ frac (neg_ℤ (pos c.loop-i.i)) c.args.shares = c.fraction-by.ensures ∙ ap₂ frac
    (omega (arith, ints, c.from.ensures, c.loop-i-test.true, c.requires.few)) (omega (arith, ints, c.from-in-loop-i.ensures)) in
    exit_refused _ _ c.from_residual.result c.from_residual.ensures.1
    (turns_refused c.args.shares (tree_at c.args.table.now c.args.child) c.loop-i.i (omega (arith, c.loop-i-test.true)) c.loop-i.turns.items before _ _ by is
    (Refused-same _ _ _ _ _ (ap (later_of by) (before.gains.older c.args.child c.requires.row)) c.in_err-turned.ensures))

pub returns-in_err-push : goal.returns-in_err-push
returns-in_err-push c = exit_want _ _ c.from_residual-in_err-push.result c.from_residual-in_err-push.ensures.1
    (Gains-append c.loop-i.invariant.gains c.in_ok-turned.ensures.gains)

pub returns : goal.returns
returns c =
    let all = take_all c.loop-i.i (range_with_len 0 c.args.shares) (omega (arith, c.loop-i-test.false, length-range_with_len 0 c.args.shares)) in
    let P : List ℕ → Type 0 = λ turns. LowersIds c.args.table.now c.loop-i.table
    (each (turned_on c.args.shares (tree_at c.args.table.now c.args.child)) turns) c.loop-i.turns.items in
    subst P all c.loop-i.invariant
