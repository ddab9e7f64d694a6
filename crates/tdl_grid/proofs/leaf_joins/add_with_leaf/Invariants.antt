use Rattle.std.proofs.Common.{◌≡◌, ◌+◌, ◌≤◌, length}
use Rattle.std.specs.List.{flat_map, sum_by}
use Rattle.tdl_expr.specs.Tree as tree
use Rattle.tdl_visits.specs.inside.Joins.{made_by_whole, visits_by_whole}
use Rattle.tdl_grid.specs.Item.{Item, event_of, Adds}
use Rattle.tdl_grid.proofs.leaf_joins.add_with_leaf.Given as goal

abbrev pub invariant-loop-giver : goal.invariant-loop-giver
invariant-loop-giver g l =
    let e = tree.Pure l.leaf in
    let u = l.ask.unit in
    record {
      items : Adds u l.fn.out l.out (flat_map (λ (i : Item). made_by_whole l.rows.side l.rows.op e l.ask.cycle (event_of u i)) l.yielded);
      exact : l.steps ≡ l.fn.steps + sum_by (λ (i : Item). visits_by_whole e l.ask.cycle (event_of u i)) l.yielded;
      few : l.steps ≤ l.fn.steps + length l.yielded;
    }
