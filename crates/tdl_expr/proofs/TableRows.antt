-- A table with one more row.
use Rattle.std.proofs.Common.{◌≡◌, ℕ, ◌+◌, ◌<◌, ◌≤◌, List, [], ◌∷◌, ◌++◌, length, get_or, refl, sym, subst, arith, below_more}
use Rattle.std.proofs.Math.ListN.{get_or-append}
use Rattle.std.proofs.Math.Seq.{get_or-append_seam}
use Rattle.std.proofs.lemmas.List.Sums.{sum_by-append}
use Rattle.tdl_expr.specs.declared.ids.NodeId.{NodeId}
use Rattle.tdl_expr.specs.declared.nodes.Node.{Node}
use Rattle.tdl_expr.specs.declared.nodes.Node.TheVariants.{Silence}
use Rattle.tdl_expr.specs.Tree as tree
use Rattle.tdl_expr.specs.Rows.{links_of, sum_links, IsNode, IsTable, IsRow, tree_of, trees_of, tree_at}
use Rattle.tdl_expr.specs.Pushed.{IsPushed}
use Rattle.tdl_expr.proofs.RowTrees.{one_more, trees_on-append, length-trees_on, trees_on-row}

pub sum_links-append : (nodes : List Node) (node : Node) → sum_links (nodes ++ node ∷ []) ≡ sum_links nodes + links_of node
sum_links-append nodes node = omega (arith, sum_by-append links_of nodes (node ∷ []))

pub table_with : (nodes : List Node) (node : Node) → IsTable nodes → IsNode (length nodes) node → length nodes + 1 ≤ 2048
    → sum_links nodes + links_of node ≤ 8192 → IsTable (nodes ++ node ∷ [])
table_with nodes node table fits rows links =
    let At : ℕ → Type 0 = λ k. IsNode k (get_or (nodes ++ node ∷ []) k Silence) in
    let below : (k : ℕ) → k < length nodes → At k =
    λ k h. subst (IsNode k) (sym (get_or-append nodes (node ∷ []) Silence k h)) (table.each k h) in
    let here : At (length nodes) = subst (IsNode (length nodes)) (sym (get_or-append_seam nodes node [] Silence)) fits in
    record {
      each = λ k h. below_more At (length nodes) below here k (omega (arith, one_more nodes node));
      rows = omega (arith, one_more nodes node);
      links = omega (arith, sum_links-append nodes node);
    }

pub pushed : (nodes : List Node) (node : Node) → IsPushed nodes (nodes ++ node ∷ []) node (record { index = length nodes })
pushed nodes node =
    let count : length (trees_of nodes) ≡ length nodes = omega (arith, length-trees_on [] nodes) in
    let trees : trees_of (nodes ++ node ∷ []) ≡ trees_of nodes ++ tree_of (trees_of nodes) node ∷ [] = trees_on-append [] nodes node in
    record {
      nodes = refl;
      row = refl;
      tree = rw trees (rw (← count) (get_or-append_seam (trees_of nodes) (tree_of (trees_of nodes) node) [] tree.Silence));
      older = λ other h. let within : other.index < length (trees_of nodes) = omega arith in
          rw trees (get_or-append (trees_of nodes) (tree_of (trees_of nodes) node ∷ []) tree.Silence other.index within);
    }

-- the tree of a row is that of its node, over all rows
pub tree_at-node : (nodes : List Node) (id : NodeId) → IsTable nodes → IsRow nodes id
    → tree_at nodes id ≡ tree_of (trees_of nodes) (get_or nodes id.index Silence)
tree_at-node nodes id table h =
    let At : ℕ → Type 0 = λ k. get_or (trees_of nodes) k tree.Silence ≡ tree_of (trees_of nodes) (get_or nodes id.index Silence) in
    let Node_at : ℕ → Type 0 = λ k. IsNode k (get_or nodes id.index Silence) in
    let same : 0 + id.index ≡ id.index = omega arith in
    subst At same (trees_on-row [] nodes id.index h (subst Node_at (sym same) (table.each id.index h)))
