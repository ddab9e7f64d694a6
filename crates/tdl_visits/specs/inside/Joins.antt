-- What a join makes, by the side that gives the wholes and the other one.
--     joined_tree        the tree of two joined rows of a table
--     join_of            the join; where both sides give the wholes, its left side is named first
--     made_by_whole      what an event of the first side makes with what the other has in the time that the cycle has of its whole
--     visits_by_whole    the visits of the other side for that
--     IsAskable          a side may be asked for a whole of the other side, which shares time with the cycle
use Rattle.std.specs.Prelude.{ℕ, List, ℤ}
use Rattle.std.specs.List.{flat_map}
use Rattle.tdl_fraction.specs.Arc.{Arc, meet}
use Rattle.tdl_event.specs.Event.{Event}
use Rattle.tdl_expr.specs.declared.joinings.Op.{Op}
use Rattle.tdl_expr.specs.declared.joinings.Side.{Side}
use Rattle.tdl_expr.specs.declared.joinings.Side.TheVariants.{Left, Right, Both}
use Rattle.tdl_expr.specs.declared.nodes.Node.{Node}
use Rattle.tdl_expr.specs.Tree.{Tree, Join}
use Rattle.tdl_expr.specs.Rows.{tree_at}
use Rattle.tdl_meaning.specs.Pattern.{cycle_arc}
use Rattle.tdl_meaning.specs.Meaning.{cyc}
use Rattle.tdl_meaning.specs.Values.{value_of}
use Rattle.tdl_meaning.specs.Asks.{IsCycleOf}
use Rattle.tdl_meaning.specs.Pairs.{made_with}
use Rattle.tdl_meaning.specs.inside.Arcs.{over_met}
use Rattle.tdl_meaning.specs.inside.Conditions.{MayAsk}
use Rattle.tdl_visits.specs.declared.joined_rows.JoinedRows.{JoinedRows}
use Rattle.tdl_visits.specs.inside.Visits.{visits, if_met}

abbrev pub joined_tree : List Node → JoinedRows → Tree
joined_tree table j = Join j.side j.op (tree_at table j.left) (tree_at table j.right)

abbrev pub join_of : Side → Op → Tree → Tree → Tree
join_of Left op d e = Join Left op d e
join_of Right op d e = Join Right op e d
join_of Both op d e = Join Both op d e

abbrev pub made_by_whole : Side → Op → Tree → ℤ → Event → List Event
made_by_whole side op e c x = flat_map (λ o. made_with side (value_of op) x o) (over_met (cyc e) (meet (cycle_arc c) x.whole))

abbrev pub visits_by_whole : Tree → ℤ → Event → ℕ
visits_by_whole e c x = if_met (visits e c) (meet (cycle_arc c) x.whole)

pub record IsAskable (e : Tree) (c : ℤ) (w : Arc) : Type 0 where
  pub may : MayAsk e w
  pub cycle : IsCycleOf w c
