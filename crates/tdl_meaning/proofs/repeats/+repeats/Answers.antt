use Rattle.std.proofs.Common.{rules, ◌≡◌, suc, ◌+◌, ◌*◌, ◌/◌, ◌<◌, ◌≤◌, ◌∷◌, length, map, take, sym, ap, ◌∙◌, subst, arith}
use Rattle.std.proofs.lemmas.Nat.{div-add-mod'}
use Rattle.std.proofs.lemmas.Nat.Gcd.{dvd_of_mod-eq-zero}
use Rattle.tdl_expr.specs.declared.ids.NodeId.{NodeId}
use Rattle.tdl_expr.specs.declared.steps.Step.{Step as StepValue}
use Rattle.tdl_expr.specs.Rows.{IsNode, in_order, tree_of, trees_of, tree_at, weighted as steps_of}
use Rattle.tdl_meaning.specs.Pattern.{Share}
use Rattle.tdl_meaning.specs.Meaning.{cyc, patterns, weighted as shares_of}
use Rattle.tdl_meaning.specs.Proper.{Each}
use Rattle.tdl_meaning.specs.Repeats.{Repeats}
use Rattle.tdl_meaning.specs.inside.Children.{rows_needed}
use Rattle.tdl_meaning.proofs.PlainLemmas.{rows_below, row_at, step_row_at, length-patterns}
use Rattle.tdl_meaning.proofs.RepeatsByKind.{fast_repeats, time_cat_repeats, cat_repeats, stack_repeats, rev_repeats, pick_repeats}
use Rattle.tdl_meaning.proofs.kinds.When.{when_repeats}
use Rattle.tdl_meaning.proofs.kinds.Shift.{shift_repeats}
use Rattle.tdl_meaning.proofs.kinds.Join.{join_repeats}
use Rattle.tdl_meaning.proofs.kinds.Ply.{ply_repeats}
use Rattle.tdl_meaning.proofs.kinds.Gate.{gate_repeats}
use Rattle.tdl_meaning.proofs.RepeatsOfRows.{as_node, children_more, steps_more}
use Rattle.tdl_meaning.proofs.repeats.+repeats.Goals as goal

-- ---- the rows of children
pub tree_repeats-steps_repeat-requires : goal.tree_repeats-steps_repeat-requires
tree_repeats-steps_repeat-requires t c =
    let is = subst (IsNode c.args.id.index) c.in-TimeCat.is c.get.ensures.valid in
    let below = rows_below _ c.args.id.index is.below in
    (omega (arith, c.decreases), omega (arith, c.requires))

pub tree_repeats-turns_repeat-requires : goal.tree_repeats-turns_repeat-requires
tree_repeats-turns_repeat-requires t c =
    let is = subst (IsNode c.args.id.index) c.in-Cat.is c.get.ensures.valid in
    let below = rows_below _ c.args.id.index is.below in
    (omega (arith, c.decreases), (is.counts.0, (is.counts.1, omega (arith, c.requires))))

pub tree_repeats-trees_repeat-requires : goal.tree_repeats-trees_repeat-requires
tree_repeats-trees_repeat-requires t c =
    let is = subst (IsNode c.args.id.index) c.in-Stack.is c.get.ensures.valid in
    let below = rows_below _ c.args.id.index is.below in
    (omega (arith, c.decreases), omega (arith, c.requires))

pub tree_repeats-trees_repeat-requires-then-tree_repeats : goal.tree_repeats-trees_repeat-requires-then-tree_repeats
tree_repeats-trees_repeat-requires-then-tree_repeats t c =
    let is = subst (IsNode c.args.id.index) c.in-Pick.is c.get.ensures.valid in
    let ids = c.in-Pick.selector ∷ c.in-Pick.children in
    let below : rows_needed ids ≤ c.args.id.index = rows_below ids c.args.id.index is.below in
    (omega (arith, c.decreases), omega (arith, c.requires))

-- ---- kinds
pub tree_repeats-returns-in-Some : goal.tree_repeats-returns-in-Some
tree_repeats-returns-in-Some t c =
    let node = c.get.ensures.tree ∙ ap (tree_of (trees_of c.args.table.now)) c.in-Fast.is in
    let is = subst (IsNode c.args.id.index) c.in-Fast.is c.get.ensures.valid in
    λ yes. as_node c.args.cycles _ _ node
    (fast_repeats c.args.cycles c.in-Some.asked c.in-Fast.rate (cyc (tree_at c.args.table.now c.in-Fast.child)) is.shares c.in-Some.ensures
    (c.tree_repeats.ensures yes))

pub tree_repeats-returns-in-TimeCat : goal.tree_repeats-returns-in-TimeCat
tree_repeats-returns-in-TimeCat t c =
    let node = c.get.ensures.tree ∙ ap (tree_of (trees_of c.args.table.now)) c.in-TimeCat.is in
    λ yes. as_node c.args.cycles _ _ node (time_cat_repeats c.args.cycles _ (c.steps_repeat.ensures yes))

pub tree_repeats-returns-in-Stack : goal.tree_repeats-returns-in-Stack
tree_repeats-returns-in-Stack t c =
    let node = c.get.ensures.tree ∙ ap (tree_of (trees_of c.args.table.now)) c.in-Stack.is in
    λ yes. as_node c.args.cycles _ _ node (stack_repeats c.args.cycles _ (c.trees_repeat.ensures yes))

pub tree_repeats-returns-in-Rev : goal.tree_repeats-returns-in-Rev
tree_repeats-returns-in-Rev t c =
    let node = c.get.ensures.tree ∙ ap (tree_of (trees_of c.args.table.now)) c.in-Rev.is in
    λ yes. as_node c.args.cycles _ _ node
    (rev_repeats c.args.cycles (cyc (tree_at c.args.table.now c.in-Rev.child)) (c.tree_repeats-in-Rev.ensures yes))

pub tree_repeats-returns-then-tree_repeats : goal.tree_repeats-returns-then-tree_repeats
tree_repeats-returns-then-tree_repeats t c =
    let node = c.get.ensures.tree ∙ ap (tree_of (trees_of c.args.table.now)) c.in-Pick.is in
    λ yes. as_node c.args.cycles _ _ node
    (pick_repeats c.args.cycles (cyc (tree_at c.args.table.now c.in-Pick.selector)) _ (c.tree_repeats-in-Pick.ensures c.if-tree_repeats.true)
    (c.trees_repeat-then-tree_repeats.ensures yes))

pub tree_repeats-returns-then-cycles-modulus-eq0 : goal.tree_repeats-returns-then-cycles-modulus-eq0
tree_repeats-returns-then-cycles-modulus-eq0 t c =
    let node = c.get.ensures.tree ∙ ap (tree_of (trees_of c.args.table.now)) c.in-When.is in
    let divides = dvd_of_mod-eq-zero c.in-When.modulus (search rules) in
    λ yes. as_node c.args.cycles _ _ node
    (when_repeats c.args.cycles c.in-When.modulus _ _ _ divides (c.both_repeat.ensures yes).0 (c.both_repeat.ensures yes).1)

pub tree_repeats-returns-in-Shift : goal.tree_repeats-returns-in-Shift
tree_repeats-returns-in-Shift t c =
    let node = c.get.ensures.tree ∙ ap (tree_of (trees_of c.args.table.now)) c.in-Shift.is in
    λ yes. as_node c.args.cycles _ _ node (shift_repeats c.args.cycles _ _ (c.tree_repeats-in-Shift.ensures yes))

pub tree_repeats-returns-in-Join : goal.tree_repeats-returns-in-Join
tree_repeats-returns-in-Join t c =
    let node = c.get.ensures.tree ∙ ap (tree_of (trees_of c.args.table.now)) c.in-Join.is in
    λ yes. as_node c.args.cycles _ _ node
    (join_repeats _ _ _ _ c.args.cycles (c.both_repeat-in-Join.ensures yes).0 (c.both_repeat-in-Join.ensures yes).1)

pub tree_repeats-returns-in-Ply : goal.tree_repeats-returns-in-Ply
tree_repeats-returns-in-Ply t c =
    let node = c.get.ensures.tree ∙ ap (tree_of (trees_of c.args.table.now)) c.in-Ply.is in
    λ yes. as_node c.args.cycles _ _ node (ply_repeats c.args.cycles _ _ (c.tree_repeats-in-Ply.ensures yes))

pub tree_repeats-returns-in-Gate : goal.tree_repeats-returns-in-Gate
tree_repeats-returns-in-Gate t c =
    let node = c.get.ensures.tree ∙ ap (tree_of (trees_of c.args.table.now)) c.in-Gate.is in
    λ yes. as_node c.args.cycles _ _ node (gate_repeats c.args.cycles _ _ _ _ (c.tree_repeats-in-Gate.ensures yes))

-- ---- child by child
pub trees_repeat-tree_repeats-requires : goal.trees_repeat-tree_repeats-requires
trees_repeat-tree_repeats-requires t c =
    let ids = c.as_slice-child-items.result.now in
    let rows = ap rows_needed c.as_slice-child-items.ensures in
    let none : NodeId = record { index = 0 } in
    let below = row_at ids c.loop-child.child-index none c.loop-child-test.true in
    (omega (arith, c.decreases, rows, below), omega (arith, c.requires, rows, below))

pub trees_repeat-loop-child-preserved : goal.trees_repeat-loop-child-preserved
trees_repeat-loop-child-preserved t c =
    let trees = trees_of c.args.table.now in
    let ids = c.as_slice-child-items.result.now in
    let i = c.loop-child.child-index in
    let next : suc i ≡ i + 1 = omega arith in
    subst (λ k. Each (Repeats c.args.cycles) (patterns (in_order trees (take k ids)))) next
    (children_more (Repeats c.args.cycles) trees ids i _ c.loop-child-test.true (c.tree_repeats.ensures (search rules)) c.loop-child.invariant)

pub steps_repeat-tree_repeats-requires : goal.steps_repeat-tree_repeats-requires
steps_repeat-tree_repeats-requires t c =
    let steps = c.as_slice-step-items.result.now in
    let rows = ap (λ xs. rows_needed (map (λ s. s.child) xs)) c.as_slice-step-items.ensures in
    let none : StepValue = record { weight = 0; child = record { index = 0 } } in
    let below = step_row_at steps c.loop-step.step-index none c.loop-step-test.true in
    (omega (arith, c.decreases, rows, below), omega (arith, c.requires, rows, below))

pub steps_repeat-loop-step-preserved : goal.steps_repeat-loop-step-preserved
steps_repeat-loop-step-preserved t c =
    let trees = trees_of c.args.table.now in
    let steps = c.as_slice-step-items.result.now in
    let i = c.loop-step.step-index in
    let next : suc i ≡ i + 1 = omega arith in
    subst (λ k. Each (λ (s : Share). Repeats c.args.cycles s.pattern) (shares_of (steps_of trees (take k steps)))) next
    (steps_more (Repeats c.args.cycles) trees steps i _ c.loop-step-test.true (c.tree_repeats.ensures (search rules)) c.loop-step.invariant)

-- ---- turns
pub turns_repeat-returns-then-cycles-count-eq0 : goal.turns_repeat-returns-then-cycles-count-eq0
turns_repeat-returns-then-cycles-count-eq0 t c =
    let trees = trees_of c.args.table.now in
    let ids = c.args.children.now in
    let count : c.len-count.result ≡ length (patterns (in_order trees ids)) = c.len-count.ensures ∙ sym (length-patterns trees ids) in
    let whole_rounds : c.args.cycles / c.len-count.result * c.len-count.result ≡ c.args.cycles =
    omega (arith, div-add-mod' c.args.cycles c.len-count.result, c.if-cycles-count-eq0.true) in
    let some : 0 < length (patterns (in_order trees ids)) = omega (arith, length-patterns trees ids, c.requires.some) in
    let times : c.args.cycles ≡ c.args.cycles / c.len-count.result * length (patterns (in_order trees ids)) =
    sym whole_rounds ∙ ap (λ k. c.args.cycles / c.len-count.result * k) count in
    λ yes. cat_repeats c.args.cycles (c.args.cycles / c.len-count.result) (patterns (in_order trees ids)) some times (c.trees_repeat.ensures yes)
