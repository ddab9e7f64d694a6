-- The grids of a program's rows.
--     IsGridOf       the number is the grid of a tree, and no finer than a time may be
--     IsGridWithin   it is so wherever the tree may be asked for something: where its times are no finer than they may be
--     AreGridsOf     there are numbers for each row of a table, with such a number for its grid
use Rattle.std.specs.Prelude.{◌≡◌, ℕ, ◌<◌, ◌≤◌, List, length, get_or}
use Rattle.tdl_expr.specs.declared.ids.NodeId.{NodeId}
use Rattle.tdl_expr.specs.declared.nodes.Node.{Node}
use Rattle.tdl_expr.specs.Tree.{Tree}
use Rattle.tdl_expr.specs.Bounds.{grid, fine}
use Rattle.tdl_expr.specs.Rows.{IsRow, tree_at}
use Rattle.tdl_expr.specs.Valid.{max_fine}
use Rattle.tdl_compile.specs.declared.sizes.RowBounds.{RowBounds}

pub record IsGridOf (e : Tree) (number : ℕ) : Type 0 where
  pub value : number ≡ grid e
  pub positive : 0 < number
  pub small : number ≤ max_fine

pub record IsGridWithin (e : Tree) (number : ℕ) : Type 0 where
  pub is : (q : ℕ) → 0 < q → fine e q ≤ max_fine → IsGridOf e number

pub record AreGridsOf (nodes : List Node) (rows : List RowBounds) : Type 0 where
  pub count : length rows ≡ length nodes
  pub each : (id : NodeId) → IsRow nodes id → (d : RowBounds) → IsGridWithin (tree_at nodes id) (get_or rows id.index d).grid
