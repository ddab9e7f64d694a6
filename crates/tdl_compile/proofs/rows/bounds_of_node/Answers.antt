use Rattle.std.proofs.Common.{sym, ◌∙◌, arith}
use Rattle.tdl_expr.specs.declared.nodes.Node.TheVariants.{Pure, Fast, TimeCat, Cat, Stack, Rev, Pick, When, Shift, Join, Ply, Gate}
use Rattle.tdl_expr.specs.Tree.{Tree, Trees}
use Rattle.tdl_expr.specs.Tree as tree
use Rattle.tdl_expr.specs.Rows.{in_order, row, weighted}
use Rattle.tdl_expr.specs.Valid.{AreValid, AreValidSteps, IsValid}
use Rattle.tdl_expr.proofs.ValidRows.{same_sum}
use Rattle.tdl_compile.specs.inside.Sizes.{CollectsSteps, NumbersStandFor}
use Rattle.tdl_compile.proofs.Nodes.{node_stands, node_sum, choices_below}
use Rattle.tdl_compile.proofs.rows.bounds_of_node.Goals as goal

pub time_cat-requires : goal.time_cat-requires
time_cat-requires c =
    omega (arith, c.total_weight-sum.ensures, node_sum _ c.args.node.now c.in-TimeCat.steps c.in-TimeCat.is c.requires)

pub pick_of-requires-clause-children : goal.pick_of-requires-clause-children
pick_of-requires-clause-children c =
    rw c.as_slice-in-Pick.ensures (choices_below _ c.args.node.now c.in-Pick.selector c.in-Pick.children c.in-Pick.is c.requires)

pub returns-in-Pure : goal.returns-in-Pure
returns-in-Pure c = λ trees all.
    node_stands trees _ c.args.node.now (Pure c.in-Pure.leaf) c.in-Pure.is (λ valid. c.of_leaf.ensures c.in-Pure.leaf)

pub returns-in-Fast : goal.returns-in-Fast
returns-in-Fast c = λ trees all.
    node_stands trees _ c.args.node.now (Fast c.in-Fast.rate c.in-Fast.child) c.in-Fast.is (λ valid. c.fast.ensures _ valid (c.bounds_at.ensures trees all))

pub returns-in-TimeCat : goal.returns-in-TimeCat
returns-in-TimeCat c = λ trees all.
    let steps = c.in-TimeCat.steps in
    let collects : AreValidSteps (weighted trees steps) → CollectsSteps c.group_of_steps.result (weighted trees steps) =
    rw (← c.as_slice.ensures) (c.group_of_steps.ensures trees all) in
    node_stands trees _ c.args.node.now (TimeCat steps) c.in-TimeCat.is
    (λ valid. c.time_cat.ensures (weighted trees steps) (c.total_weight-sum.ensures ∙ sym (same_sum trees steps)) (collects valid.1))

pub returns-in-Rev : goal.returns-in-Rev
returns-in-Rev c = λ trees all.
    node_stands trees _ c.args.node.now (Rev c.in-Rev.child) c.in-Rev.is (λ valid. c.rev.ensures _ (c.bounds_at-in-Rev.ensures trees all))

pub returns-in-Cat : goal.returns-in-Cat
returns-in-Cat c = λ trees all.
    let ids = c.in-Cat.children in
    let stands : AreValid (in_order trees ids) → NumbersStandFor c.cat_of.result (tree.Cat (in_order trees ids)) =
    rw (← c.as_slice-in-Cat.ensures) (c.cat_of.ensures trees all) in
    node_stands trees _ c.args.node.now (Cat ids) c.in-Cat.is stands

pub returns-in-Stack : goal.returns-in-Stack
returns-in-Stack c = λ trees all.
    let ids = c.in-Stack.children in
    let stands : AreValid (in_order trees ids) → NumbersStandFor c.stack_of.result (tree.Stack (in_order trees ids)) =
    rw (← c.as_slice-in-Stack.ensures) (c.stack_of.ensures trees all) in
    node_stands trees _ c.args.node.now (Stack ids) c.in-Stack.is stands

pub returns-in-Pick : goal.returns-in-Pick
returns-in-Pick c = λ trees all.
    let ids = c.in-Pick.children in
    let chosen : Trees → Tree = tree.Pick (row trees c.in-Pick.selector) in
    let stands : IsValid (chosen (in_order trees ids)) → NumbersStandFor c.pick_of.result (chosen (in_order trees ids)) =
    rw (← c.as_slice-in-Pick.ensures) (c.pick_of.ensures trees all) in
    node_stands trees _ c.args.node.now (Pick c.in-Pick.selector ids) c.in-Pick.is stands

pub returns-in-When : goal.returns-in-When
returns-in-When c = λ trees all.
    node_stands trees _ c.args.node.now (When c.in-When.modulus c.in-When.test c.in-When.yes c.in-When.no) c.in-When.is
    (λ valid. c.when.ensures _ _ _ _ valid (c.bounds_at-in-When.ensures trees all) (c.bounds_at-in-When-2.ensures trees all))

pub returns-in-Shift : goal.returns-in-Shift
returns-in-Shift c = λ trees all.
    node_stands trees _ c.args.node.now (Shift c.in-Shift.by c.in-Shift.child) c.in-Shift.is
    (λ valid. c.shift.ensures _ valid (c.bounds_at-in-Shift.ensures trees all))

pub returns-in-Join : goal.returns-in-Join
returns-in-Join c = λ trees all.
    node_stands trees _ c.args.node.now (Join c.in-Join.side c.in-Join.op c.in-Join.left c.in-Join.right) c.in-Join.is
    (λ valid. c.join.ensures _ _ _ valid (c.bounds_at-in-Join.ensures trees all) (c.bounds_at-in-Join-2.ensures trees all))

pub returns-in-Ply : goal.returns-in-Ply
returns-in-Ply c = λ trees all.
    node_stands trees _ c.args.node.now (Ply c.in-Ply.times c.in-Ply.child) c.in-Ply.is
    (λ valid. c.ply.ensures _ valid.1 (c.bounds_at-in-Ply.ensures trees all))

pub returns-in-Gate : goal.returns-in-Gate
returns-in-Gate c = λ trees all.
    node_stands trees _ c.args.node.now (Gate c.in-Gate.from c.in-Gate.to c.in-Gate.inside c.in-Gate.child) c.in-Gate.is
    (λ valid. c.gate.ensures _ _ _ _ (c.bounds_at-in-Gate.ensures trees all))
