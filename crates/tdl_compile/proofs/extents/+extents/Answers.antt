use Rattle.std.proofs.Common.{◌≡◌, ◌<◌, ◌*◌, ℕ, length, get_or, refl, ap, ◌∙◌, ⊎_elim, arith}
use Rattle.std.specs.List.{All}
use Rattle.std.proofs.Math.Nat.{mul-pos}
use Rattle.std.proofs.lemmas.List.Elements.{All-tail}
use Rattle.tdl_fraction.proofs.Coprime.{lcm_positive}
use Rattle.tdl_expr.specs.declared.nodes.Node.TheVariants.{Silence, Pure, Fast, Pick, Shift, Join}
use Rattle.tdl_expr.specs.Tree as tree
use Rattle.tdl_expr.specs.Rows.{in_order, trees_of, tree_at}
use Rattle.tdl_expr.specs.Bounds.{upper, lower}
use Rattle.tdl_expr.specs.Bounds as wanted
use Rattle.tdl_expr.proofs.Numbers.{shared_positive, lower_positive}
use Rattle.tdl_expr.proofs.ValidRows.{valid_row}
use Rattle.tdl_compile.specs.Compiled.{capped}
use Rattle.tdl_compile.proofs.Loops.{child_below}
use Rattle.tdl_compile.proofs.Walks.{fine_whole, fine_capped, fine_chosen, fine_step, fine_sides, reach_whole, reach_capped, reach_sides, reach_step}
use Rattle.tdl_compile.proofs.Walks.{leaf_fine, kind_tree, kind_valid, kind_fine, kind_reach, kind_below, sides_below}
use Rattle.tdl_compile.proofs.extents.+extents.Goals as goal

pub extent_at-returns-in-Silence-clause-fine : goal.extent_at-returns-in-Silence-clause-fine
extent_at-returns-in-Silence-clause-fine t c =
    let nodes = c.args.table.now in
    let id = c.args.id in
    let node = c.get.result.now in
    ⊎_elim
    (λ is. leaf_fine (tree_at nodes id) tree.Silence c.args.asked.grid _ (kind_tree nodes id node Silence is c.get.ensures.tree) refl
    (omega arith) c.of_leaf.ensures.fine)
    (λ is. leaf_fine (tree_at nodes id) (tree.Pure is.0) c.args.asked.grid _ (kind_tree nodes id node (Pure is.0) is.1 c.get.ensures.tree) refl
    (omega arith) c.of_leaf.ensures.fine)
    c.in-Silence.is

pub extent_of_tree-returns-clause-fine : goal.extent_of_tree-returns-clause-fine
extent_of_tree-returns-clause-fine t c =
    let nodes = c.args.table.now in
    let known = c.requires.known in
    fine_whole (tree_at nodes c.args.id) c.args.asked.grid _ _ _ _ (valid_row nodes c.args.id known.table) c.args.asked.has_grid
    (c.bounds_at.ensures (trees_of nodes) known.stand).bounds.grid c.own_extent-own.ensures.fine c.extent_below.ensures.fine c.with.ensures.fine

pub extent_of_tree-returns-clause-reach : goal.extent_of_tree-returns-clause-reach
extent_of_tree-returns-clause-reach t c =
    let nodes = c.args.table.now in
    reach_whole (tree_at nodes c.args.id) c.args.asked.far _ _ _ _
    (c.bounds_at.ensures (trees_of nodes) c.requires.known.stand).bounds.hang c.own_extent-own.ensures.reach c.extent_below.ensures.reach c.with.ensures.reach

pub extent_below-extent_of-choices-requires : goal.extent_below-extent_of-choices-requires
extent_below-extent_of-choices-requires t c =
    let count = c.rows_before-before.ensures.count in
    let rows = length c.rows_before-before.result.now in
    let all = kind_below _ _ c.get.result.now (Pick c.in-Pick.selector c.in-Pick.children) c.in-Pick.is c.get.ensures.valid count in
    let below : All (λ id. id.index < rows) c.as_slice-in-Pick.result.now =
    rw c.as_slice-in-Pick.ensures (All-tail (λ id. id.index < rows) c.in-Pick.selector c.in-Pick.children all) in
    (omega arith, (c.rows_before-before.ensures.known c.args.table.now c.requires.known, below))

pub extent_below-extent_at-requires-in-Pick : goal.extent_below-extent_at-requires-in-Pick
extent_below-extent_at-requires-in-Pick t c =
    let count = c.rows_before-before.ensures.count in
    let all = kind_below _ _ c.get.result.now (Pick c.in-Pick.selector c.in-Pick.children) c.in-Pick.is c.get.ensures.valid count in
    let below : c.in-Pick.selector.index < length c.rows_before-before.result.now = all 0 c.in-Pick.selector (omega arith) in
    (omega arith, (c.rows_before-before.ensures.known c.args.table.now c.requires.known, below))

pub extent_below-bounds_at-requires-in-Join-2 : goal.extent_below-bounds_at-requires-in-Join-2
extent_below-bounds_at-requires-in-Join-2 t c =
    (sides_below _ _ c.get.result.now c.in-Join.side c.in-Join.op c.in-Join.left c.in-Join.right c.in-Join.is c.get.ensures.valid
    c.rows_before-before.ensures.count).0

pub extent_below-extent_at-extent_right-requires : goal.extent_below-extent_at-extent_right-requires
extent_below-extent_at-extent_right-requires t c =
    let count = c.rows_before-before.ensures.count in
    let below =
    sides_below _ _ c.get.result.now c.in-Join.side c.in-Join.op c.in-Join.left c.in-Join.right c.in-Join.is c.get.ensures.valid count in
    (omega (arith, below.1), (c.rows_before-before.ensures.known c.args.table.now c.requires.known, below.1))

pub extent_below-extent_at-requires-in-Join : goal.extent_below-extent_at-requires-in-Join
extent_below-extent_at-requires-in-Join t c =
    let count = c.rows_before-before.ensures.count in
    let below =
    sides_below _ _ c.get.result.now c.in-Join.side c.in-Join.op c.in-Join.left c.in-Join.right c.in-Join.is c.get.ensures.valid count in
    (omega (arith, below.0), (c.rows_before-before.ensures.known c.args.table.now c.requires.known, below.0))

pub extent_below-returns-in-Fast-clause-fine : goal.extent_below-returns-in-Fast-clause-fine
extent_below-returns-in-Fast-clause-fine t c =
    let nodes = c.args.table.now in
    let rate = c.in-Fast.rate in
    let kind = Fast rate c.in-Fast.child in
    let grid = c.args.asked.grid in
    let ask = wanted.fast_ask rate grid in
    let valid = kind_valid nodes c.args.id c.get.result.now kind c.in-Fast.is c.get.ensures.tree c.requires.known.table in
    let positive : 0 < ask = shared_positive grid (lower rate) (upper rate) c.args.asked.has_grid (lower_positive rate) in
    kind_fine nodes c.args.id c.get.result.now kind c.in-Fast.is c.get.ensures.tree grid _
    (c.extent_at.ensures.fine ∙ ap (λ (n : ℕ). capped (wanted.fine (tree_at nodes c.in-Fast.child) n)) c.fast.ensures.grid
    ∙ fine_capped (tree_at nodes c.in-Fast.child) ask valid.1 positive)

pub extent_below-returns-in-Fast-clause-reach : goal.extent_below-returns-in-Fast-clause-reach
extent_below-returns-in-Fast-clause-reach t c =
    let nodes = c.args.table.now in
    let rate = c.in-Fast.rate in
    let far = c.args.asked.far in
    kind_reach nodes c.args.id c.get.result.now (Fast rate c.in-Fast.child) c.in-Fast.is c.get.ensures.tree far _
    (c.extent_at.ensures.reach ∙ ap (λ (n : ℕ). capped (wanted.reach (tree_at nodes c.in-Fast.child) n)) c.fast.ensures.far
    ∙ reach_capped (tree_at nodes c.in-Fast.child) (wanted.fast_far rate far))

pub extent_below-returns-in-Pick-clause-fine : goal.extent_below-returns-in-Pick-clause-fine
extent_below-returns-in-Pick-clause-fine t c =
    let nodes = c.args.table.now in
    let selector = c.in-Pick.selector in
    let kind = Pick selector c.in-Pick.children in
    let grid = c.args.asked.grid in
    let valid = kind_valid nodes c.args.id c.get.result.now kind c.in-Pick.is c.get.ensures.tree c.requires.known.table in
    let known = c.rows_before-before.ensures.known nodes c.requires.known in
    let choices = in_order (trees_of nodes) c.in-Pick.children in
    let finest : c.extent_of-choices.result.fine ≡ capped (wanted.fine_of choices c.chosen-chosen.result.grid) =
    rw (← c.as_slice-in-Pick.ensures) c.extent_of-choices.ensures.fine in
    kind_fine nodes c.args.id c.get.result.now kind c.in-Pick.is c.get.ensures.tree grid _
    (fine_chosen (tree_at nodes selector) choices grid _ c.chosen-chosen.result.grid _ _ _ valid.0 valid.1 c.args.asked.has_grid
    (c.bounds_at.ensures (trees_of nodes) known.stand).bounds.grid c.chosen-chosen.ensures.grid c.extent_at-in-Pick.ensures.fine finest c.with.ensures.fine)

pub extent_below-returns-in-Shift-clause-fine : goal.extent_below-returns-in-Shift-clause-fine
extent_below-returns-in-Shift-clause-fine t c =
    let nodes = c.args.table.now in
    let by = c.in-Shift.by in
    let kind = Shift by c.in-Shift.child in
    let grid = c.args.asked.grid in
    let ask = wanted.shift_ask by grid in
    let valid = kind_valid nodes c.args.id c.get.result.now kind c.in-Shift.is c.get.ensures.tree c.requires.known.table in
    let positive : 0 < ask = lcm_positive grid (lower by) c.args.asked.has_grid (lower_positive by) in
    kind_fine nodes c.args.id c.get.result.now kind c.in-Shift.is c.get.ensures.tree grid _
    (c.extent_at-in-Shift.ensures.fine ∙ ap (λ (n : ℕ). capped (wanted.fine (tree_at nodes c.in-Shift.child) n)) c.shift.ensures.grid
    ∙ fine_capped (tree_at nodes c.in-Shift.child) ask valid positive)

pub extent_below-returns-in-Shift-clause-reach : goal.extent_below-returns-in-Shift-clause-reach
extent_below-returns-in-Shift-clause-reach t c =
    let nodes = c.args.table.now in
    let by = c.in-Shift.by in
    let far = c.args.asked.far in
    kind_reach nodes c.args.id c.get.result.now (Shift by c.in-Shift.child) c.in-Shift.is c.get.ensures.tree far _
    (c.extent_at-in-Shift.ensures.reach ∙ ap (λ (n : ℕ). capped (wanted.reach (tree_at nodes c.in-Shift.child) n)) c.shift.ensures.far
    ∙ reach_capped (tree_at nodes c.in-Shift.child) (wanted.shift_far by far))

pub extent_below-returns-in-Join-clause-fine : goal.extent_below-returns-in-Join-clause-fine
extent_below-returns-in-Join-clause-fine t c =
    let nodes = c.args.table.now in
    let side = c.in-Join.side in
    let kind = Join side c.in-Join.op c.in-Join.left c.in-Join.right in
    let left = tree_at nodes c.in-Join.left in
    let right = tree_at nodes c.in-Join.right in
    let grid = c.args.asked.grid in
    let asked_left = c.left-asked_left in
    let asked_right = c.right-asked_right in
    let valid = kind_valid nodes c.args.id c.get.result.now kind c.in-Join.is c.get.ensures.tree c.requires.known.table in
    let known = c.rows_before-before.ensures.known nodes c.requires.known in
    let ask_left = asked_left.ensures.grid left right (c.bounds_at-in-Join.ensures (trees_of nodes) known.stand).bounds in
    let ask_right = asked_right.ensures.grid left right (c.bounds_at-in-Join-2.ensures (trees_of nodes) known.stand).bounds in
    kind_fine nodes c.args.id c.get.result.now kind c.in-Join.is c.get.ensures.tree grid _
    (fine_sides side left right grid asked_left.result.grid asked_right.result.grid _ _ _ valid.0 valid.1 c.args.asked.has_grid
    asked_left.result.has_grid asked_right.result.has_grid ask_left ask_right
    c.extent_at-in-Join.ensures.fine c.extent_at-extent_right.ensures.fine c.with-in-Join.ensures.fine)

pub extent_below-returns-in-Join-clause-reach : goal.extent_below-returns-in-Join-clause-reach
extent_below-returns-in-Join-clause-reach t c =
    let nodes = c.args.table.now in
    let side = c.in-Join.side in
    let kind = Join side c.in-Join.op c.in-Join.left c.in-Join.right in
    let left = tree_at nodes c.in-Join.left in
    let right = tree_at nodes c.in-Join.right in
    let far = c.args.asked.far in
    let known = c.rows_before-before.ensures.known nodes c.requires.known in
    let far_left = c.left-asked_left.ensures.far left right (c.bounds_at-in-Join.ensures (trees_of nodes) known.stand).bounds in
    let far_right = c.right-asked_right.ensures.far left right (c.bounds_at-in-Join-2.ensures (trees_of nodes) known.stand).bounds in
    kind_reach nodes c.args.id c.get.result.now kind c.in-Join.is c.get.ensures.tree far _
    (reach_sides side left right far c.left-asked_left.result.far c.right-asked_right.result.far _ _ _ far_left far_right
    c.extent_at-in-Join.ensures.reach c.extent_at-extent_right.ensures.reach c.with-in-Join.ensures.reach)

pub extent_of_steps-extent_at-requires : goal.extent_of_steps-extent_at-requires
extent_of_steps-extent_at-requires t c =
    let steps = c.args.steps.now in
    let k = c.loop-step.step-index in
    let s = get_or steps k (record { weight = 0; child = record { index = 0 } }) in
    let below : s.child.index < length c.args.rows.now = child_below (length c.args.rows.now) steps c.requires.below k _ c.loop-step-test.true in
    (omega arith, (c.requires.known, below))

pub extent_of_steps-loop-step-preserved : goal.extent_of_steps-loop-step-preserved
extent_of_steps-loop-step-preserved t c =
    let nodes = c.args.table.now in
    let steps = c.args.steps.now in
    let k = c.loop-step.step-index in
    let s = get_or steps k (record { weight = 0; child = record { index = 0 } }) in
    let child = tree_at nodes s.child in
    let positive : 0 < c.args.asked.grid * s.weight = mul-pos c.args.asked.has_grid (c.requires.weights k _ c.loop-step-test.true) in
    let finest = c.extent_at.ensures.fine ∙ ap (λ (n : ℕ). capped (wanted.fine child n)) c.step.ensures.grid in
    let furthest = c.extent_at.ensures.reach ∙ ap (λ (n : ℕ). capped (wanted.reach child n)) c.step.ensures.far in (
      rw c.with-extent.ensures.fine
          (fine_step (trees_of nodes) steps k _ c.args.asked.grid c.loop-step.extent.fine c.extent_at.result.fine _ c.loop-step-test.true
          (valid_row nodes s.child c.requires.known.table) positive c.loop-step.invariant.0 finest),
      rw c.with-extent.ensures.reach
          (reach_step (trees_of nodes) steps k _ c.args.asked.far c.loop-step.extent.reach c.extent_at.result.reach _ c.loop-step-test.true
          c.loop-step.invariant.1 furthest),
    )
