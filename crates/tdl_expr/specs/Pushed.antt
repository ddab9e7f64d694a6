-- What a push does to the nodes of a table.
--     IsPushed       the node has a row of its own, which stands for its tree; older rows stay
--     overflow_of    why a node is refused, if it is
use Rattle.std.specs.Prelude.{◌≡◌, ℕ, ◌+◌, nat_lt, ◌||◌, if◌then◌else◌, Option, Some, None, List, [], ◌∷◌, ◌++◌, length}
use Rattle.tdl_expr.specs.declared.ids.NodeId.{NodeId}
use Rattle.tdl_expr.specs.declared.nodes.Node.{Node}
use Rattle.tdl_expr.specs.declared.tables.PushFault.{PushFault}
use Rattle.tdl_expr.specs.declared.tables.PushFault.TheVariants.{TooLarge}
use Rattle.tdl_expr.specs.Rows.{links_of, max_links, max_rows, sum_links, IsRow, tree_of, trees_of, tree_at}

pub record IsPushed (old new : List Node) (node : Node) (id : NodeId) : Type 0 where
  pub nodes : new ≡ old ++ node ∷ []
  pub row : id.index ≡ length old
  pub tree : tree_at new id ≡ tree_of (trees_of old) node
  pub older : (other : NodeId) → IsRow old other → tree_at new other ≡ tree_at old other

-- with so many rows, or so many links, a table is too large
abbrev pub overflow : ℕ → ℕ → Option PushFault
overflow rows links = if nat_lt max_rows rows || nat_lt max_links links then Some (TooLarge rows links) else None

abbrev pub overflow_of : List Node → Node → Option PushFault
overflow_of nodes node = overflow (length nodes + 1) (sum_links nodes + links_of node)
