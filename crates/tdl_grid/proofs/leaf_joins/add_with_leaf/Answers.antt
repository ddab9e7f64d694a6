use Rattle.std.proofs.Common.{◌≡◌, ◌+◌, ◌≤◌, List, length, subst, ◌∙◌, arith, length-append}
use Rattle.std.specs.List.{flat_map, sum_by}
use Rattle.std.proofs.IntoIterSteps.{All-taken}
use Rattle.tdl_expr.specs.Tree as tree
use Rattle.tdl_visits.specs.inside.Joins.{made_by_whole, visits_by_whole}
use Rattle.tdl_grid.specs.Item.{Item, event_of, Adds}
use Rattle.tdl_grid.proofs.Gained.{adds_yielded, taken_within}
use Rattle.tdl_grid.proofs.Gaining.{ran_out}
use Rattle.tdl_grid.proofs.LeafJoins.{taken_more, all_gained}
use Rattle.tdl_grid.proofs.leaf_joins.add_with_leaf.Goals as goal

pub loop-giver-preserved : goal.loop-giver-preserved
loop-giver-preserved g c =
    let side = c.args.rows.now.side in
    let op = c.args.rows.now.op in
    let leaf = c.args.leaf.now in
    let cycle = c.args.ask.now.cycle in
    let u = c.args.ask.now.unit in
    let so_far = c.loop-giver.yielded in
    let x = c.in-Some.giver in
    let next = c.in_ok-add_one_with_leaf.ensures u cycle c.requires.positive c.of_cycle-whole.ensures.arc in
    record {
      items = adds_yielded u (λ (i : Item). made_by_whole side op (tree.Pure leaf) cycle (event_of u i)) so_far x _ _ _ c.loop-giver.invariant.items next.items;
      exact = taken_more side op leaf cycle u so_far x _ _ _ c.loop-giver.invariant.exact next.exact;
      few = omega (arith, c.loop-giver.invariant.few, next.few, length-append {A = Item});
    }

pub returns-in_err-add_one_with_leaf : goal.returns-in_err-add_one_with_leaf
returns-in_err-add_one_with_leaf g c =
    let it = c.into_iter-giver-iterator in
    let within = taken_within c.args.givers c.loop-giver.yielded c.in-Some.giver it.result c.loop-giver.giver-iterator c.next.new.self
    (it.ensures.into_iter_gives.0 ∙ c.into_vec-giver-items.ensures) c.loop-giver.yielded_by c.in-Some.ensures.steps.0 in
    let next = c.add_one_with_leaf.ensures c.args.ask.now.unit c.args.ask.now.cycle c.requires.positive c.of_cycle-whole.ensures.arc in
    ran_out _ _ _ _ c.from_residual.result _ _ _ _ _ c.from_residual.ensures.1 (omega (arith, within, next.few, c.loop-giver.invariant.few))

pub returns : goal.returns
returns g c =
    let it = c.into_iter-giver-iterator in
    let loop = c.loop-giver in
    let leaf = tree.Pure c.args.leaf.now in
    let cycle = c.args.ask.now.cycle in
    let u = c.args.ask.now.unit in
    let all : loop.yielded ≡ c.args.givers =
    All-taken it.result loop.yielded (c.next.new.self, (loop.giver-iterator, loop.yielded_by, c.in-None.ensures.steps)) ∙ it.ensures.into_iter_gives.0
    ∙ c.into_vec-giver-items.ensures in
    let side = c.args.rows.now.side in
    let op = c.args.rows.now.op in
    all_gained side op c.args.leaf.now cycle u c.args.givers c.args.out.now loop.out c.args.steps.now loop.steps
    (subst (λ (l : List Item). Adds u c.args.out.now loop.out (flat_map (λ (i : Item). made_by_whole side op leaf cycle (event_of u i)) l)) all
    loop.invariant.items)
    (subst (λ (l : List Item). loop.steps ≡ c.args.steps.now + sum_by (λ (i : Item). visits_by_whole leaf cycle (event_of u i)) l) all
    loop.invariant.exact)
    (subst (λ (l : List Item). loop.steps ≤ c.args.steps.now + length l) all loop.invariant.few)
