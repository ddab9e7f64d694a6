-- Children together, each in the unit of their parent; and the node of a row.
use Rattle.std.proofs.Common.{◌≡◌, ℕ, ◌+◌, ◌≤◌, ◌<◌, List, [], take, drop, length, get_or, Ok, refl, sym, ap, ◌∙◌, subst}
use Rattle.std.specs.Int.{◌∣◌}
use Rattle.std.specs.List.{flat_map}
use native.Mathlib.Nat.{dvd_trans}
use Rattle.tdl_fraction.proofs.Coprime.{divides_lcm_left, divides_lcm_right}
use Rattle.tdl_fraction.specs.Arc.{Arc}
use Rattle.tdl_expr.specs.declared.ids.NodeId.{NodeId}
use Rattle.tdl_expr.specs.declared.nodes.Node.{Node}
use Rattle.tdl_expr.specs.Tree.{Tree, Trees}
use Rattle.tdl_expr.specs.Tree as tree
use Rattle.tdl_expr.specs.Bounds.{bounds_of, loads, grid, grids}
use Rattle.tdl_expr.specs.Rows.{row, in_order, tree_of, trees_of, tree_at}
use Rattle.tdl_meaning.specs.Pattern.{over}
use Rattle.tdl_meaning.specs.Meaning.{cyc}
use Rattle.tdl_meaning.specs.Asks.{IsChild, here, there}
use Rattle.tdl_meaning.proofs.Asked.{room_stack}
use Rattle.tdl_meaning.proofs.PlainLemmas.{child_at}
use Rattle.tdl_visits.specs.inside.Visits.{visits_of}
use Rattle.tdl_visits.proofs.ByRow.{stack_visit}
use Rattle.tdl_grid.specs.Span.{arc_of}
use Rattle.tdl_grid.specs.Item.{Item, Adds}
use Rattle.tdl_grid.specs.declared.asks.CountAsk.{CountAsk}
use Rattle.tdl_grid.specs.inside.Asked.{MayCountVisit, time_ask}
use Rattle.tdl_grid.specs.inside.Visited.{IsVisit}
use Rattle.tdl_grid.proofs.Gained.{adds_as}
use Rattle.tdl_grid.proofs.Gaining.{may_visit}

-- what may be asked of a row's tree may be asked of the one that its node makes
pub may_count_node : (x node : Node) → x ≡ node → (trees : List Tree) (e : Tree) (ask : CountAsk) → e ≡ tree_of trees x → MayCountVisit e ask
    → MayCountVisit (tree_of trees node) ask
may_count_node x node is trees e ask at may = subst (λ t. MayCountVisit t ask) (at ∙ ap (tree_of trees) is) may

-- the same row of the same table
pub at_row : (held nodes : List Node) → held ≡ nodes → (id : NodeId) (x : Node) → tree_at held id ≡ tree_of (trees_of held) x
    → tree_at nodes id ≡ tree_of (trees_of nodes) x
at_row held nodes same id x at = subst (λ ns. tree_at ns id ≡ tree_of (trees_of ns) x) same at

-- the grid of a child divides the one that all have in common
pub child_grid : {k : ℕ} {trees : Trees} {e : Tree} → IsChild k trees e → grid e ∣ grids (bounds_of trees)
child_grid (here {e = e} {trees = trees}) = divides_lcm_left (grid e) (grids (bounds_of trees))
child_grid (there {d = d} {e = e} {trees = trees} is) = dvd_trans (grid e) (child_grid is) (divides_lcm_right (grid d) (grids (bounds_of trees)))

module _ (trees : List Tree) (children ids : List NodeId) (same : ids ≡ children) (ask : CountAsk)
    (visit : MayCountVisit (tree.Stack (in_order trees children)) ask) where
  abbrev asked : Arc
  asked = arc_of ask.unit ask.arc

  abbrev own : MayCountVisit (tree.Stack (in_order trees ids)) ask
  own = subst (λ xs. MayCountVisit (tree.Stack (in_order trees xs)) ask) (sym same) visit

  -- each child may be asked
  pub stack_child : (i : ℕ) (d : NodeId) → i < length ids → MayCountVisit (row trees (get_or ids i d)) ask
  stack_child i d h =
      let is = child_at trees ids i d h in
      record {
        count = record {
          may = record {
            q = own.count.may.q;
            m = own.count.may.m;
            room = room_stack own.count.may.q own.count.may.m i (in_order trees ids) (row trees (get_or ids i d)) is own.count.may.room;
            asked = own.count.may.asked;
          };
          unit = record {
            positive = own.count.unit.positive;
            divides = dvd_trans (grid (row trees (get_or ids i d))) (child_grid is) own.count.unit.divides;
            small = own.count.unit.small;
          };
        };
        inside = own.inside;
      }

  -- and what they gain in all is what the stack does
  pub stack_gains : (old new : List Item) (i s0 s1 : ℕ) → length ids ≤ i
      → Adds ask.unit old new (flat_map (λ id. over (cyc (row trees id)) asked) (take i ids))
      → s1 + visits_of (in_order trees (drop i ids)) ask.cycle asked ≡ s0 + visits_of (in_order trees ids) ask.cycle asked
      → s1 + loads (bounds_of (in_order trees (drop i ids))) ≤ s0 + loads (bounds_of (in_order trees ids))
      → IsVisit (tree.Stack (in_order trees children)) ask (Ok tt) old new s0 (s1 + 1)
  stack_gains old new i s0 s1 past items exact few =
      let has = flat_map (λ id. over (cyc (row trees id)) asked) (take i ids) in
      let may = may_visit (tree.Stack (in_order trees children)) ask visit in
      let h = stack_visit trees children ids same (time_ask ask) may [] has i s0 s1 past refl exact few in
      record { items = adds_as ask.unit old new _ _ h.events items; exact = h.exact; few = h.few }
