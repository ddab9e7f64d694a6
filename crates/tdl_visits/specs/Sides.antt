-- A join's rows, by the side that gives the wholes.
--     giver_of      the row that gives the wholes; of two, the left one
--     other_of      the row beside it
use Rattle.tdl_expr.specs.declared.ids.NodeId.{NodeId}
use Rattle.tdl_expr.specs.declared.joinings.Side.{Side}
use Rattle.tdl_expr.specs.declared.joinings.Side.TheVariants.{Left, Right, Both}
use Rattle.tdl_visits.specs.declared.joined_rows.JoinedRows.{JoinedRows}

abbrev pub by_side : Side → NodeId → NodeId → NodeId
by_side Left left right = left
by_side Right left right = right
by_side Both left right = left

abbrev pub giver_of : JoinedRows → NodeId
giver_of j = by_side j.side j.left j.right

abbrev pub other_of : JoinedRows → NodeId
other_of j = by_side j.side j.right j.left
