-- The bounds of a node, and of one more row.
use Rattle.std.proofs.Common.{◌≡◌, ℕ, ◌<◌, List, [], ◌∷◌, ◌++◌, length, get_or, sym, subst, arith, below_more, length-append}
use Rattle.std.specs.List.{All, sum_by}
use Rattle.std.proofs.Math.ListN.{get_or-append}
use Rattle.std.proofs.Math.Seq.{get_or-append_seam}
use Rattle.std.proofs.lemmas.List.Elements.{All-tail}
use Rattle.tdl_expr.specs.declared.ids.NodeId.{NodeId}
use Rattle.tdl_expr.specs.declared.steps.Step.{Step}
use Rattle.tdl_expr.specs.declared.nodes.Node.{Node}
use Rattle.tdl_expr.specs.declared.nodes.Node.TheVariants.{TimeCat, Pick}
use Rattle.tdl_expr.specs.Tree.{Tree}
use Rattle.tdl_expr.specs.Tree as tree
use Rattle.tdl_expr.specs.Rows.{IsNode, tree_of}
use Rattle.tdl_expr.specs.Valid.{IsValid}
use Rattle.tdl_expr.proofs.ValidRows.{some_weight}
use Rattle.tdl_compile.specs.declared.sizes.RowBounds.{RowBounds}
use Rattle.tdl_compile.specs.inside.Sizes.{NumbersStandFor, AllStand}

-- what is shown of a node's kind holds of the node
pub node_stands : (trees : List Tree) (out : RowBounds) (node kind : Node) → node ≡ kind
    → (IsValid (tree_of trees kind) → NumbersStandFor out (tree_of trees kind)) → IsValid (tree_of trees node) → NumbersStandFor out (tree_of trees node)
node_stands trees out node kind is h = subst (λ (n : Node). IsValid (tree_of trees n) → NumbersStandFor out (tree_of trees n)) (sym is) h

pub node_sum : (rows : ℕ) (node : Node) (steps : _) → node ≡ TimeCat steps → IsNode rows node → 0 < sum_by (λ (s : Step). s.weight) steps
node_sum rows node steps is h =
    let made : IsNode rows (TimeCat steps) = subst (IsNode rows) is h in
    some_weight steps made.counts.0 made.shares.0

pub choices_below : (rows : ℕ) (node : Node) (selector : NodeId) (ids : List NodeId) → node ≡ Pick selector ids → IsNode rows node
    → All (λ id. id.index < rows) ids
choices_below rows node selector ids is h =
    let made : IsNode rows (Pick selector ids) = subst (IsNode rows) is h in
    All-tail (λ id. id.index < rows) selector ids made.below

pub all_stand_more : (rows : List RowBounds) (b : RowBounds) (trees : List Tree) → AllStand rows trees
    → NumbersStandFor b (get_or trees (length rows) tree.Silence) → AllStand (rows ++ b ∷ []) trees
all_stand_more rows b trees all stands = record {
  each = λ id h d.
      let At : ℕ → Type 0 = λ k. NumbersStandFor (get_or (rows ++ b ∷ []) k d) (get_or trees k tree.Silence) in
      let older : (k : ℕ) → k < length rows → At k = λ k lt.
      subst (λ (x : RowBounds). NumbersStandFor x (get_or trees k tree.Silence)) (sym (get_or-append rows (b ∷ []) d k lt))
      (all.each (record { index = k }) lt d) in
      below_more At (length rows) older
      (subst (λ (x : RowBounds). NumbersStandFor x (get_or trees (length rows) tree.Silence)) (sym (get_or-append_seam rows b [] d)) stands)
      id.index (omega (arith, length-append rows (b ∷ [])));
}
