use Rattle.std.proofs.Common.{◌≡◌, ℕ, List, [], ◌∷◌, length, get_or, sym, ◌∙◌, subst, arith, length-append}
use Rattle.tdl_expr.specs.Tree.{Silence}
use Rattle.tdl_expr.specs.Valid.{IsValid}
use Rattle.tdl_expr.specs.Rows.{trees_of, tree_of, tree_at}
use Rattle.tdl_expr.proofs.ValidRows.{valid_row}
use Rattle.tdl_compile.specs.declared.sizes.RowBounds.{RowBounds}
use Rattle.tdl_compile.specs.inside.Sizes.{NumbersStandFor, AllStand}
use Rattle.tdl_compile.proofs.Nodes.{all_stand_more}
use Rattle.tdl_compile.proofs.rows.bounds_of_rows.Goals as goal

pub loop-index-preserved : goal.loop-index-preserved
loop-index-preserved c =
    let nodes = c.args.table.now in
    let rows = c.loop-index.rows.items in
    let bounds = c.bounds_of_node-bounds.result in
    let valid : IsValid (tree_of (trees_of nodes) c.get.result.now) =
    subst IsValid c.get.ensures.tree (valid_row nodes c.id.result c.rows-index-end.ensures.valid) in
    let all : AllStand c.deref.result.now (trees_of nodes) =
    subst (λ (xs : List RowBounds). AllStand xs (trees_of nodes)) (sym c.deref.ensures.value) c.loop-index.invariant.1 in
    let row : c.id.result.index ≡ length rows = c.id.ensures.number ∙ sym c.loop-index.invariant.0 in
    let stands : NumbersStandFor bounds (tree_at nodes c.id.result) =
    subst (NumbersStandFor bounds) (sym c.get.ensures.tree) (c.bounds_of_node-bounds.ensures (trees_of nodes) all valid) in
    let at : ℕ → Type 0 = λ k. NumbersStandFor bounds (get_or (trees_of nodes) k Silence) in
    rw c.in_ok-push.ensures.items (
      omega (arith, length-append rows (bounds ∷ []), c.loop-index.invariant.0),
      all_stand_more rows bounds (trees_of nodes) c.loop-index.invariant.1 (subst at row stands),
    )
