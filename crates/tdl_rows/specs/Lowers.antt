-- What is done to the nodes of a table where rows are made for a tree.
--     Gains             the table gained rows with these links, none of them refused, and older rows stand
--                       for what they stood for
--     Refused           such rows were refused, and no row that was there is gone
--     Lowers, LowersTo  a row stands for a tree, and the table gained the tree's rows
--     trees_at          the trees that rows stand for, in order
--     first_overflow    why the first push is refused that is, if one is
use Rattle.std.specs.Prelude.{◌≡◌, ℕ, ◌+◌, Option, Some, None, Result, MatchResult, List, [], ◌∷◌, ◌++◌, length, map, ◌⊎◌}
use Rattle.tdl_expr.specs.declared.ids.NodeId.{NodeId}
use Rattle.tdl_expr.specs.declared.nodes.Node.{Node}
use Rattle.tdl_expr.specs.declared.tables.PushFault.{PushFault}
use Rattle.tdl_expr.specs.declared.tables.PushFault.TheVariants.{NoMemory}
use Rattle.tdl_expr.specs.Tree.{Tree}
use Rattle.tdl_expr.specs.Rows.{links_of, sum_links, IsRow, tree_at}
use Rattle.tdl_expr.specs.Pushed.{overflow}
use Rattle.tdl_rows.specs.Built.{Built}

abbrev pub overflow_or : Option PushFault → Option PushFault → Option PushFault
overflow_or (Some fault) later = Some fault
overflow_or None later = later

-- in a table with so many rows and links, of rows with so many links each
abbrev pub first_overflow : ℕ → ℕ → List ℕ → Option PushFault
first_overflow rows links [] = None
first_overflow rows links (more ∷ others) = overflow_or (overflow (rows + 1) (links + more)) (first_overflow (rows + 1) (links + more) others)

abbrev pub overflow_in : List Node → List ℕ → Option PushFault
overflow_in nodes links = first_overflow (length nodes) (sum_links nodes) links

pub record Gains (old new : List Node) (links : List ℕ) : Type 0 where
  pub added : List Node
  pub nodes : new ≡ old ++ added
  pub rows : map links_of added ≡ links
  pub older : (other : NodeId) → IsRow old other → tree_at new other ≡ tree_at old other
  pub fits : overflow_in old links ≡ None

pub record Refused (old new : List Node) (links : List ℕ) (fault : PushFault) : Type 0 where
  pub reason : (overflow_in old links ≡ Some fault) ⊎ (fault ≡ NoMemory)
  pub added : List Node
  pub nodes : new ≡ old ++ added

pub record Lowers (old new : List Node) (built : Built Tree) (id : NodeId) : Type 0 where
  pub row : IsRow new id
  pub is : tree_at new id ≡ built.value
  pub gains : Gains old new built.rows

abbrev pub LowersTo : List Node → List Node → Built Tree → Result NodeId PushFault → Type 0
LowersTo old new built result = MatchResult result (Lowers old new built) (Refused old new built.rows)

abbrev pub trees_at : List Node → List NodeId → List Tree
trees_at nodes ids = map (tree_at nodes) ids
