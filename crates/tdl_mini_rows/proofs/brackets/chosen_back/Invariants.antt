use Rattle.std.proofs.Common.{length, IsTrue}
use Rattle.tdl_mini_rows.specs.inside.Bounds.{are_rates, argument_values, AreBounded}
use Rattle.tdl_rows.specs.Arguments.{argument_at}
use Rattle.tdl_mini_rows.proofs.BackRows.{IsBack}
use Rattle.tdl_mini_rows.proofs.brackets.chosen_back.Given as goal

abbrev pub invariant-loop-last : goal.invariant-loop-last
invariant-loop-last l = record {
  back : IsBack l.fn.table l.table l.fn.waiting.items l.waiting.items l.fn.factor l.argument;
  bounded : AreBounded l.waiting.items;
  rates : IsTrue (are_rates (argument_values (argument_at l.table l.argument)));
}

abbrev pub decreases-loop-last : goal.decreases-loop-last
decreases-loop-last l = length l.waiting.items
