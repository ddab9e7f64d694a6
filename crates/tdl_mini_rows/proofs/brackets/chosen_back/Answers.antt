use Rattle.std.proofs.Common.{subst}
use Rattle.tdl_mini_rows.specs.inside.Bounds.{AreBounded}
use Rattle.tdl_rows.proofs.Gained.{exit_refused}
use Rattle.tdl_mini_rows.proofs.Accepted.{rates_in}
use Rattle.tdl_mini_rows.proofs.BackRows.{back_more, back_refused, bounded_last, bounded_front, rows_here}
use Rattle.tdl_mini_rows.proofs.brackets.chosen_back.Goals as goal

pub choose-requires-clause-stands : goal.choose-requires-clause-stands
choose-requires-clause-stands c = (
  rows_here c.args.table.now c.loop-last.table c.args.waiting.items c.loop-last.waiting.items _ c.in-Some.last c.args.factor
      c.loop-last.argument c.requires.waiting c.loop-last.invariant.back c.in-Some.ensures.items,
  (bounded_last _ c.in-Some.last (subst AreBounded c.in-Some.ensures.items c.loop-last.invariant.bounded)).sequences,
)

pub choose-requires-clause-takes : goal.choose-requires-clause-takes
choose-requires-clause-takes c = rates_in c.loop-last.table c.loop-last.argument c.loop-last.invariant.rates

pub loop-last-preserved : goal.loop-last-preserved
loop-last-preserved c =
    let bounded = subst AreBounded c.in-Some.ensures.items c.loop-last.invariant.bounded in
    record {
      back = back_more c.args.table.now c.loop-last.table c.args.waiting.items c.loop-last.waiting.items _ c.in-Some.last c.args.factor c.loop-last.argument
          c.requires.waiting c.loop-last.invariant.back c.in-Some.ensures.items
          (bounded_last _ c.in-Some.last bounded).few _ c.in_ok-selector.selector c.in_ok-selector.ensures;
      bounded = bounded_front _ c.in-Some.last bounded;
      rates = (bounded_last _ c.in-Some.last bounded).rates;
    }

pub loop-last-preserved-in_ok-selector : goal.loop-last-preserved-in_ok-selector
loop-last-preserved-in_ok-selector c =
    let bounded = subst AreBounded c.in-Some.ensures.items c.loop-last.invariant.bounded in
    record {
      back = back_more c.args.table.now c.loop-last.table c.args.waiting.items c.loop-last.waiting.items _ c.in-Some.last c.args.factor c.loop-last.argument
          c.requires.waiting c.loop-last.invariant.back c.in-Some.ensures.items
          (bounded_last _ c.in-Some.last bounded).few _ c.in_ok-selector.selector c.in_ok-selector.ensures;
      bounded = bounded_front _ c.in-Some.last bounded;
      rates = (bounded_last _ c.in-Some.last bounded).rates;
    }

pub returns-in_err-selector : goal.returns-in_err-selector
returns-in_err-selector c =
    exit_refused _ _ c.from_residual.result c.from_residual.ensures.1
    (back_refused c.args.table.now c.loop-last.table c.args.waiting.items c.loop-last.waiting.items _ c.in-Some.last c.args.factor c.loop-last.argument
    c.requires.waiting c.loop-last.invariant.back c.in-Some.ensures.items _ _ c.in_err-selector.ensures)
