-- What stays of a table when nodes are added to it.
use Rattle.std.specs.Prelude.{◌≡◌, List, ◌++◌, map, All}
use Rattle.tdl_expr.specs.declared.ids.NodeId.{NodeId}
use Rattle.tdl_expr.specs.declared.steps.Step.{Step}
use Rattle.tdl_expr.specs.declared.nodes.Node.{Node}
use Rattle.tdl_expr.specs.Rows.{children, IsRow, in_order, weighted, tree_of, trees_of, tree_at}

-- each row stands for what it stood for
abbrev pub KeepsRows : List Node → List Node → Type 0
KeepsRows old new = (id : NodeId) → IsRow old id → tree_at new id ≡ tree_at old id

pub record TableGrowthLaws : Type 0 where
  -- nodes at the end change no row
  pub row : (nodes more : List Node) → KeepsRows nodes (nodes ++ more)
  -- two growths, one after the other, change no row
  pub growths : (old middle new more : List Node) → middle ≡ old ++ more → KeepsRows old middle → KeepsRows middle new → KeepsRows old new
  -- where rows stay, so do the trees of lists of rows, of steps and of nodes
  pub rows : (old new : List Node) → KeepsRows old new
      → (ids : List NodeId) → All (IsRow old) ids → in_order (trees_of new) ids ≡ in_order (trees_of old) ids
  pub steps : (old new : List Node) → KeepsRows old new
      → (steps : List Step) → All (IsRow old) (map (λ s. s.child) steps) → weighted (trees_of new) steps ≡ weighted (trees_of old) steps
  pub node : (old new : List Node) → KeepsRows old new
      → (node : Node) → All (IsRow old) (children node) → tree_of (trees_of new) node ≡ tree_of (trees_of old) node
