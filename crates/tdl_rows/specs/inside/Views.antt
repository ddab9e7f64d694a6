-- What a loop that makes rows one after another has made so far.
--     LowersIds     rows that stand for trees in order, and the table gained the trees' rows
use Rattle.std.specs.Prelude.{◌≡◌, List, All}
use Rattle.tdl_expr.specs.declared.ids.NodeId.{NodeId}
use Rattle.tdl_expr.specs.declared.nodes.Node.{Node}
use Rattle.tdl_expr.specs.Tree.{Tree}
use Rattle.tdl_expr.specs.Rows.{IsRow}
use Rattle.tdl_rows.specs.Built.{Built}
use Rattle.tdl_rows.specs.Lowers.{Gains, trees_at}

pub record LowersIds (old new : List Node) (built : Built (List Tree)) (ids : List NodeId) : Type 0 where
  pub rows : All (IsRow new) ids
  pub are : trees_at new ids ≡ built.value
  pub gains : Gains old new built.rows
